-- Texts with their numbers in memory.
use Rattle.std.specs.Prelude.{◌≡◌, ℕ, List}
use Rattle.std.specs.HashMap.{get_by}
use Rattle.std.specs.Str.{bytes_eq}
use Rattle.text_sharing.specs.declared.different.Different.{Different}
use Rattle.text_sharing.specs.Shared.{number_of}

-- looking a text up finds the number of the first that is equal
pub record IsNumbered (found : Different) : Type 0 where
  pub finds : (text : List ℕ) →
      get_by (λ key. bytes_eq text key.now) found.numbers ≡ number_of found.texts text

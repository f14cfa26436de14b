-- The lines of all offsets in a text.
use Rattle.std.specs.Prelude.{◌≡◌, ℕ, ◌+◌, ◌≤◌, List, length, slice_index}
use Rattle.zpl_text.specs.Lines.{line_at}

-- Each offset has its line there, the end of the text among them.
pub record HasLines (source lines : List ℕ) : Type 0 where
  pub count : length lines ≡ length source + 1
  pub right : (k : ℕ) → k ≤ length source → slice_index lines k ≡ line_at source k

-- Files in memory: the texts with their names, and the calls that fail.
use Rattle.std.specs.Prelude.{◌≡◌, ◌⊎◌, ℕ, ◌≤◌, List, Option, Some, None, find, Contains}
use Rattle.std.specs.Option.{option_map}
use Rattle.std.specs.Str.{bytes_eq}
use Rattle.zpl_io.specs.Faults.{count_after}
use Rattle.zpl_io.specs.declared.outside.Fetched.{Fetched}
use Rattle.zpl_io.specs.declared.outside.Fetched.TheVariants.{Whole, TooLong, Failed, NoMemory}

-- each text behind its name, in the order of adding; the numbers of the calls that fail; how many
-- calls there were, and how many of them failed
pub record KeptFiles : Type 0 where
  pub named : List (List ℕ × List ℕ)
  pub failing : List ℕ
  pub calls : ℕ
  pub faults : ℕ

-- the first text under the name
abbrev pub text_under : List ℕ → List (List ℕ × List ℕ) → Option (List ℕ)
text_under name named = option_map (λ entry. entry.1) (find (λ entry. bytes_eq entry.0 name) named)

-- the text is the one that these files have under the name
abbrev pub HasText : KeptFiles → List ℕ → List ℕ → Type 0
HasText files name text = text_under name files.named ≡ Some text

-- the next fetch fails: its number is in the list, or its name isn't there
abbrev pub FailsNext : KeptFiles → List ℕ → Type 0
FailsNext files name = Contains files.failing files.calls ⊎ (text_under name files.named ≡ None)

-- the next fetch or a later one fails: the number of one is in the list, or the name isn't there
abbrev pub FailsLater : KeptFiles → List ℕ → Type 0
FailsLater files name =
    ((call : ℕ) × (files.calls ≤ call) × Contains files.failing call)
    ⊎ (text_under name files.named ≡ None)

-- the files after a fetch with that answer
abbrev pub files_after : KeptFiles → Fetched → KeptFiles
files_after files Whole = record files { calls = count_after files.calls }
files_after files TooLong = record files { calls = count_after files.calls }
files_after files Failed =
    record files { calls = count_after files.calls; faults = count_after files.faults }
files_after files NoMemory = files

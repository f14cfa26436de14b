-- What a call is given.
use Rattle.std.specs.Prelude.{ℕ, List}

-- the words behind the program's name, the texts that the files tell by name, and the names under
-- which the next fetch may fail, and under which it or a later one may
pub record Call : Type 1 where
  pub words : List (List ℕ)
  pub tells : List ℕ → List ℕ → Type 0
  pub may_fail : List ℕ → Type 0
  pub may_fail_later : List ℕ → Type 0

abbrev pub call_of :
    List (List ℕ) → (List ℕ → List ℕ → Type 0) → (List ℕ → Type 0) → (List ℕ → Type 0) → Call
call_of words tells may_fail may_fail_later = record {
  words = words;
  tells = tells;
  may_fail = may_fail;
  may_fail_later = may_fail_later;
}

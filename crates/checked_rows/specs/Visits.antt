-- Where the run of a plan comes.
use Rattle.std.specs.Prelude.{◌≡◌, ℕ, ◌+◌, List, slice_get, Option, Some}
use Rattle.node_form.specs.declared.instructions.Instr.{Instr}
use Rattle.node_form.specs.declared.tables.Tables.{Tables}
use Rattle.row_runs.specs.Run.{Goes, Does, Leaps, Passes}
use Rattle.plan_meaning.specs.Abreast.{Abreast, start_abreast}
use Rattle.plan_meaning.specs.Act.{row_does}
use Rattle.checked_rows.specs.Right.{WantsNone}

-- Over links that hold so many messages, with n turns of each loop within a group: in front of the
-- row with a number, or behind the last one, stand all processors so.
pub data Visits (code : Tables) (links : Option ℕ) (n : ℕ) : ℕ → Abreast → Type 0 where
  Starts : Visits code links n 0 (start_abreast code)
  GoesOn : {at : ℕ} {all next : Abreast} {row : Instr} {bytes : List ℕ}
      → Visits code links n at all → slice_get code.code at ≡ Some row
      → row_does code links n row (slice_get code.code (at + 1)) all ≡ Does (Goes bytes next)
      → Visits code links n (at + 1) next
  LeapsTo : {at goal : ℕ} {all : Abreast} {row : Instr}
      → Visits code links n at all → slice_get code.code at ≡ Some row
      → row_does code links n row (slice_get code.code (at + 1)) all ≡ Leaps goal
      → Visits code links n goal all
  PassesOn : {at : ℕ} {all : Abreast} {row : Instr}
      → Visits code links n at all → slice_get code.code at ≡ Some row
      → row_does code links n row (slice_get code.code (at + 1)) all ≡ Passes
      → Visits code links n (at + 1) all

-- nowhere a loop wants a further turn
abbrev pub NeverWants : Tables → Option ℕ → ℕ → Type 0
NeverWants code links n =
    (at : ℕ) (all : Abreast) (row : Instr) → Visits code links n at all
    → slice_get code.code at ≡ Some row → WantsNone code n row all

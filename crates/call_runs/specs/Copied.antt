-- A copy of an array, which a parameter takes.
use Rattle.std.specs.Prelude.{◌≡◌, ◌≢◌, ℕ, length}
use Rattle.node_form.specs.declared.tables.Tables.{Tables}
use Rattle.row_runs.specs.Structured.{goes_on}
use Rattle.flat_form.specs.Whole.{Whole}
use Rattle.prefix_runs.specs.of_zpl_lowering.Where.{Stored, Next}
use Rattle.prefix_runs.specs.of_zpl_lowering.Program.{made_copy}
use Rattle.prefix_runs.specs.of_lowering_runs.Run.{does}
use Rattle.prefix_runs.specs.of_lowering_runs.Seen.{array_in, slot_in}
use Rattle.prefix_runs.specs.of_lowering_runs.Stands.{IsSound}

-- Its code comes to a state in which an array that was free is what another one is; all else is as
-- it was, but for a slot that was free.
pub record IsCopied (tables : Tables) (n line : ℕ) (next : Next) (from : Stored) (now : Whole)
    : Type 0 where
  pub after : Whole
  pub course : does tables n (made_copy line next from).code now ≡ goes_on after
  pub sound : IsSound tables after
  pub here : array_in after next.arrays ≡ array_in now from.array
  pub other : (k : ℕ) → k ≢ next.arrays → array_in after k ≡ array_in now k
  pub scalars : after.scalars ≡ now.scalars
  pub slots : (k : ℕ) → k ≢ next.slots → slot_in after k ≡ slot_in now k
  pub many : length after.slots ≡ length now.slots

-- the array that is made
abbrev pub copy_at : Next → Stored → Stored
copy_at next from = record { array = next.arrays; storage = from.storage }

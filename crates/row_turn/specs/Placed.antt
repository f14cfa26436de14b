-- A processor that is at a row, and one that stays there.
use Rattle.std.specs.Prelude.{◌≡◌, ℕ, Some, None, slice_get}
use Rattle.node_form.specs.declared.instructions.Instr.{Instr}
use Rattle.node_form.specs.declared.tables.Tables.{Tables}
use Rattle.node_form.specs.Fits.{FitsInstr}
use Rattle.node_local.specs.Workplace.{IsReady, Workplace}

-- The processor hasn't ended, and its next row is this one, whose numbers are in their tables.
pub record IsAtRow (code : Tables) (p : ℕ) (workplace : Workplace) (row : Instr) : Type 0 where
  pub ready : IsReady code p workplace
  pub running : workplace.local.ended ≡ None
  pub here : slice_get code.code workplace.local.at ≡ Some row
  pub fits : FitsInstr code row

-- it is at the same row as before, with the same regions in its slots
pub record StaysAtRow (old new : Workplace) : Type 0 where
  pub at : new.local.at ≡ old.local.at
  pub slots : new.local.slots ≡ old.local.slots

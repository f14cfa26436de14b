-- What is asked of a processor that runs such a row.
--
--   IsControlRow   the rows that need scalars and slots alone
--   IsPrintRow     those that print a text or an expression's value
--   CanRun         what they read is there, with room for each expression
use Rattle.std.specs.Prelude.{◌≡◌, ◌<◌, length, ⊤}
use Rattle.std.specs.List.{AllZip}
use Rattle.node_form.specs.declared.instructions.Instr.{Instr}
use Rattle.node_form.specs.declared.instructions.Instr.TheVariants as instr
use Rattle.node_form.specs.declared.tables.Tables.{Tables}
use Rattle.grid_meaning.specs.State.{IsSlot}
use Rattle.node_local.specs.Workplace.{HasRoom, Workplace}

abbrev pub IsControlRow : Instr → Type 0
IsControlRow (instr.Set scalar expr line) = ⊤
IsControlRow (instr.Fix slot region) = ⊤
IsControlRow (instr.Dims slot parts line) = ⊤
IsControlRow (instr.Formed form slot from shift line) = ⊤
IsControlRow (instr.Need slot array shift line) = ⊤
IsControlRow (instr.Same target source kind line) = ⊤
IsControlRow (instr.Fits slot shift line) = ⊤
IsControlRow (instr.Jump goal) = ⊤
IsControlRow (instr.Unless expr goal line) = ⊤
IsControlRow (instr.Trap kind line) = ⊤
IsControlRow instr.End = ⊤
IsControlRow row = ⊥

abbrev pub IsPrintRow : Instr → Type 0
IsPrintRow (instr.Print text) = ⊤
IsPrintRow (instr.Number expr) = ⊤
IsPrintRow (instr.Truth expr) = ⊤
IsPrintRow row = ⊥

-- the state has the program's scalars and slots, there is a row to be run, and room for each
-- expression
pub record CanRun (code : Tables) (workplace : Workplace) : Type 0 where
  pub scalars : length workplace.local.scalars ≡ code.scalars
  pub slots : AllZip IsSlot code.slots workplace.local.slots
  pub next : workplace.local.at < length code.code
  pub room : HasRoom code workplace

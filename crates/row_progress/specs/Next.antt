-- The row that a processor is in, if it is in one.
--
--   next_row   none where it has ended, or is behind the last instruction
--   IsNext     it is in this one
--   asked_of   how many turns a row must have beside those for words that are kept
use Rattle.std.specs.Prelude.{◌≡◌, ℕ, ◌-◌, Option, Some, None, slice_get}
use Rattle.node_form.specs.of_zpl_nums.declared.ends.End.{End}
use Rattle.node_form.specs.declared.instructions.Instr.{Instr}
use Rattle.node_form.specs.declared.instructions.Instr.TheVariants as instr
use Rattle.node_form.specs.declared.tables.Tables.{Tables}
use Rattle.grid_meaning.specs.Local.{Local}

abbrev pub unless_over : Option End → Option Instr → Option Instr
unless_over None found = found
unless_over (Some ending) found = None

abbrev pub next_row : Tables → Local → Option Instr
next_row code local = unless_over local.ended (slice_get code.code local.at)

pub record IsNext (code : Tables) (local : Local) (row : Instr) : Type 0 where
  pub running : local.ended ≡ None
  pub here : slice_get code.code local.at ≡ Some row

-- a `remap` has a turn more for each sender whose words it keeps
abbrev pub asked_of : Instr → ℕ → ℕ → ℕ
asked_of (instr.Remap array slot from parts) made told = made - told
asked_of row made told = made

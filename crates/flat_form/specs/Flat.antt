-- Tables of a flat program.
use Rattle.std.specs.Prelude.{[], ◌∷◌, ◌++◌, All}
use Rattle.grid_meaning.specs.of_node_form.declared.instructions.Instr.{Instr}
use Rattle.grid_meaning.specs.of_node_form.declared.instructions.Instr.TheVariants as instr
use Rattle.grid_meaning.specs.of_node_form.declared.tables.Tables.{Tables}
use Rattle.grid_meaning.specs.of_node_form.Fits.{Fits}

-- the row sends no message and awaits none by itself: it means the same on whole arrays
abbrev pub IsFlatRow : Instr → Type 0
IsFlatRow (instr.Start exchange) = ⊥
IsFlatRow (instr.Finish exchange) = ⊥
IsFlatRow (instr.Vote group) = ⊥
IsFlatRow (instr.TreeVote group) = ⊥
IsFlatRow (instr.TreeFold scalar fold) = ⊥
IsFlatRow row = Unit {0}

-- they fit, and all rows are those of a flat program
pub record IsFlat (tables : Tables) : Type 0 where
  pub fits : Fits tables
  pub rows : All IsFlatRow tables.code

-- the tables with one more row of code
abbrev pub with_step : Tables → Instr → Tables
with_step tables step = record tables { code = tables.code ++ step ∷ [] }

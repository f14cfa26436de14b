-- Tables of plans.
use Rattle.std.specs.Prelude.{All}
use Rattle.flat_passes.specs.of_node_form.declared.instructions.Instr.{Instr}
use Rattle.flat_passes.specs.of_node_form.declared.instructions.Instr.TheVariants as instr
use Rattle.flat_passes.specs.of_node_form.declared.tables.Tables.{Tables}
use Rattle.flat_passes.specs.of_node_form.Fits.{Fits}

-- the row is no agreement along the tree of processors: a plan doesn't say yet how all agree
abbrev pub IsPlanRow : Instr → Type 0
IsPlanRow (instr.TreeVote group) = ⊥
IsPlanRow (instr.TreeFold scalar fold) = ⊥
IsPlanRow row = Unit {0}

-- they fit, and all rows are those of a plan
pub record IsPlan (tables : Tables) : Type 0 where
  pub fits : Fits tables
  pub rows : All IsPlanRow tables.code

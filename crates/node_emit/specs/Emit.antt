-- Plans as node code: the rows stay, for a grid; and agreements go along the tree, if that is asked
-- for.
use Rattle.std.specs.Prelude.{ℕ, Bool, true, false, List, map}
use Rattle.flat_passes.specs.of_node_form.declared.instructions.Instr.{Instr}
use Rattle.flat_passes.specs.of_node_form.declared.instructions.Instr.TheVariants as instr
use Rattle.flat_passes.specs.of_node_form.declared.tables.Tables.{Tables}

-- a vote and a fold, along the tree of processors
abbrev pub along_tree : Instr → Instr
along_tree (instr.Vote group) = instr.TreeVote group
along_tree (instr.Fold scalar fold) = instr.TreeFold scalar fold
along_tree row = row

abbrev pub rows_emitted : Bool → List Instr → List Instr
rows_emitted true rows = map along_tree rows
rows_emitted false rows = rows

abbrev pub emitted : Bool → List ℕ → Tables → Tables
emitted tree grid tables = record tables { grid = grid; code = rows_emitted tree tables.code }

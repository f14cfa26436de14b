-- Marks of the rows that are goals.
use Rattle.std.specs.Prelude.{◌≡◌, ℕ, ◌<◌, Bool, true, false, List, length, slice_index_or, slice_set}
use Rattle.flat_passes.specs.of_node_form.declared.instructions.Instr.{Instr}
use Rattle.flat_passes.specs.of_node_form.declared.instructions.Instr.TheVariants as instr
use Rattle.flat_passes.specs.of_code_parts.Stretch.{is_goal}

-- a mark for each row, true where it is a goal
pub record AreGoals (code : List Instr) (marks : List Bool) : Type 0 where
  pub as_many : length marks ≡ length code
  pub marked : (at : ℕ) → at < length code → slice_index_or marks at false ≡ is_goal code at

-- with the row's goal marked, if it is one of the rows
abbrev pub marked_by : Instr → List Bool → List Bool
marked_by (instr.Jump goal) marks = slice_set marks goal true
marked_by (instr.Unless expr goal line) marks = slice_set marks goal true
marked_by row marks = marks

-- Code rewritten stretch by stretch.
use Rattle.std.specs.Prelude.{ℕ, Bool, true, false, List}
use Rattle.flat_form.specs.of_row_runs.Cut.{Stretch, cut, passed}
use Rattle.flat_form.specs.of_node_form.declared.instructions.Instr.{Instr}
use Rattle.flat_form.specs.of_node_form.declared.instructions.Instr.TheVariants as instr
use Rattle.flat_form.specs.of_code_parts.Stretch.{ends_stretch, is_goal}

-- the row, leading to where its goal has come to stand
abbrev pub with_moved_goal : (ℕ → ℕ) → Instr → Instr
with_moved_goal moved (instr.Jump goal) = instr.Jump (moved goal)
with_moved_goal moved (instr.Unless expr goal line) = instr.Unless expr (moved goal) line
with_moved_goal moved row = row

-- The code cut where a row ends a stretch, and in front of each goal. Which rows are goals is found
-- by one walk over the code.
abbrev pub stretches_of : List Instr → List (Stretch Instr)
stretches_of code = cut ends_stretch (is_goal code) 0 code

-- The rows of each stretch rewritten, up to the jump, test, trap or end behind them, which stays,
-- with its goal moved. Where the rows come to stand goes by how many they are: by one walk over the
-- code, which notes the new number of each row.
abbrev pub rewritten_code : (List Instr → List Instr) → List Instr → List Instr
rewritten_code rewrite code = passed rewrite with_moved_goal (stretches_of code)

-- the row is a jump or a test, which may lead elsewhere
abbrev pub has_goal : Instr → Bool
has_goal (instr.Jump goal) = true
has_goal (instr.Unless expr goal line) = true
has_goal row = false

-- The turns of a `for`.
use Rattle.std.specs.Prelude.{ℕ, Bool, [], ◌∷◌, Option}
use Rattle.zpl_tree.specs.Syntax.{Name}
use Rattle.zpl_meaning.specs.Store.{thing_of}
use Rattle.node_form.specs.Expression.{Variable}
use Rattle.row_runs.specs.Structured as piece
use Rattle.zpl_lowering.specs.Lowered.{Lowered, check_of, followed, rows_alone}
use Rattle.zpl_lowering.specs.Statement.{Counter, is_done, scalar_of, set_row, step_row}
use Rattle.zpl_lowering.specs.Where.{Next, Where}

-- the scalar of a variable
abbrev pub target_in : Where → Name → Option ℕ
target_in w name = scalar_of w.numbers (thing_of w.environment name.text)

-- each turn sets the variable first
abbrev pub turns_code : Bool → Counter → ℕ → Option ℕ → Next → (Next → Lowered) → Lowered
turns_code down counter line target next body =
    let inside = followed next (rows_alone (set_row line (Variable counter.at) target)) body in
    record inside {
      code = piece.Repeat
          (piece.Then inside.code (piece.Rows (step_row down counter line ∷ [])))
          (piece.Rows []) (check_of (is_done down counter) line);
    }

-- Tests at a line.
use Rattle.std.specs.Prelude.{ℕ, [], ◌∷◌}
use Rattle.zpl_tree.specs.Syntax.{Expr}
use Rattle.zpl_names.specs.Sites.{Test}
use Rattle.zpl_lowering.specs.Lowered.{check_of, first_left, phased}
use Rattle.zpl_lowering.specs.Statement.{Testing, placed_in}
use Rattle.zpl_lowering.specs.Where.{Next, Where}

abbrev pub test_at : Where → ℕ → Next → Expr → Testing
test_at w line next expr =
    let phases = phased w line next (placed_in w Test expr ∷ []) in
    record { before = phases.lowered; check = check_of (first_left phases.left) line }

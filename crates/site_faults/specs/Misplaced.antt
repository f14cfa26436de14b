-- Calls in wrong places, and actuals of value parameters.
use Rattle.std.specs.Prelude.{Bool, true, not, ◌&&◌, Option}
use Rattle.zpl_tree.specs.Syntax.{Base, Expr}
use Rattle.name_kinds.specs.of_zpl_names.Kinds.{Kind}
use Rattle.name_kinds.specs.of_zpl_names.Ranks.{is_above_zero}
use Rattle.name_kinds.specs.of_zpl_names.Scope.{is_procedure}
use Rattle.name_kinds.specs.of_zpl_names.Types.{is_boolean}
use Rattle.name_kinds.specs.of_zpl_names.Faults.{answers, is_integer_in}
use Rattle.name_kinds.specs.of_zpl_names.Sites.{Actual, CallRole, AsStatement, AsValue, Elsewhere, Reach, whole_rank}

abbrev pub is_misplaced : CallRole → Option Kind → Bool
is_misplaced AsStatement kind = answers kind
is_misplaced AsValue kind = is_procedure kind && not (answers kind)
is_misplaced Elsewhere kind = true

abbrev pub is_fitting_value : Reach → Base → Expr → Bool
is_fitting_value reach base actual =
    not (is_above_zero (whole_rank reach Actual actual)) &&
    not (is_boolean base && is_integer_in reach actual)

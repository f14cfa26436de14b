-- What each fold makes of two values, of none and of a list.
use Rattle.std.specs.Prelude.{ℤ, pos, ◌+ℤ◌, ◌*ℤ◌, ◌&&◌, ◌||◌, List, fold}
use Rattle.std.specs.Int.{int_max, int_min}
use Rattle.zpl_nums.specs.declared.folds.Fold.{Fold}
use Rattle.zpl_nums.specs.declared.folds.Fold.TheVariants.{Sum, Prod, Max, Min, All, Any}
use Rattle.zpl_nums.specs.Integer.{wrapped, truth, is_true, least, greatest, IsInteger, IsTruth}

abbrev pub joined : Fold → ℤ → ℤ → ℤ
joined Sum a b = wrapped (a +ℤ b)
joined Prod a b = wrapped (a *ℤ b)
joined Max a b = int_max a b
joined Min a b = int_min a b
joined All a b = truth (is_true a && is_true b)
joined Any a b = truth (is_true a || is_true b)

-- the fold over nothing
abbrev pub unit_of : Fold → ℤ
unit_of Sum = pos 0
unit_of Prod = pos 1
unit_of Max = least
unit_of Min = greatest
unit_of All = pos 1
unit_of Any = pos 0

-- z is a value that the operator is for: an integer, or a truth value for `All` and `Any`
abbrev pub IsValueOf : Fold → ℤ → Type 0
IsValueOf Sum z = IsInteger z
IsValueOf Prod z = IsInteger z
IsValueOf Max z = IsInteger z
IsValueOf Min z = IsInteger z
IsValueOf All z = IsTruth z
IsValueOf Any z = IsTruth z

-- the fold over a list, from its first element on
abbrev pub folded : Fold → List ℤ → ℤ
folded operator values = fold (joined operator) (unit_of operator) values

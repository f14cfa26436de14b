-- The definitions, computed at edge values.
use Rattle.std.proofs.Common.{◌≡◌, Some, None, pos, negsuc, [], ◌∷◌, refl}
use Rattle.std.specs.Int.{int_wrap}
use Rattle.zpl_nums.specs.declared.operators.Op.TheVariants as op
use Rattle.zpl_nums.specs.declared.folds.Fold.TheVariants as fold
use Rattle.zpl_nums.specs.Integer.{least, greatest}
use Rattle.zpl_nums.specs.Op.{applied}
use Rattle.zpl_nums.specs.Fold.{folded}

sum_past_the_greatest : applied op.Add greatest (pos 1) ≡ Some least
unfolding int_wrap
sum_past_the_greatest = refl

product_of_the_least : applied op.Mul least (negsuc 0) ≡ Some least
unfolding int_wrap
product_of_the_least = refl

quotient_toward_zero : applied op.Div (negsuc 6) (pos 2) ≡ Some (negsuc 2)
unfolding int_wrap
quotient_toward_zero = refl

quotient_of_the_least : applied op.Div least (negsuc 0) ≡ Some least
unfolding int_wrap
quotient_of_the_least = refl

quotient_by_zero : applied op.Div (pos 7) (pos 0) ≡ None
quotient_by_zero = refl

remainder_of_a_negative : applied op.Rem (negsuc 6) (pos 2) ≡ Some (negsuc 0)
remainder_of_a_negative = refl

remainder_of_the_least : applied op.Rem least (negsuc 0) ≡ Some (pos 0)
remainder_of_the_least = refl

both_true : applied op.And (pos 2) (pos 4) ≡ Some (pos 1)
both_true = refl

greatest_of_none : folded fold.Max [] ≡ least
greatest_of_none = refl

greatest_of_three : folded fold.Max (negsuc 4 ∷ pos 3 ∷ pos 2 ∷ []) ≡ pos 3
greatest_of_three = refl

sum_that_wraps : folded fold.Sum (greatest ∷ greatest ∷ pos 3 ∷ []) ≡ pos 1
unfolding int_wrap
sum_that_wraps = refl

-- The operators' values are integers of 64 bits.
use Rattle.std.proofs.Common.{Bool, true, false, cond, not, ◌&&◌, ◌||◌, Some, None, IfSome}
use Rattle.std.proofs.Common.{ℤ, pos, ◌+ℤ◌, ◌-ℤ◌, ◌*ℤ◌, int_lt, int_le, int_div, int_rem}
use Rattle.std.specs.Ordering.{int_eq}
use Rattle.zpl_nums.specs.declared.operators.Op.{Op}
use Rattle.zpl_nums.specs.declared.operators.Op.TheVariants.{Add, Sub, Mul, Div, Rem}
use Rattle.zpl_nums.specs.declared.operators.Op.TheVariants.{Eq, Ne, Lt, Le, Gt, Ge, And, Or, Max}
use Rattle.zpl_nums.specs.declared.operators.Op.TheVariants.{Min}
use Rattle.zpl_nums.specs.declared.operators.UnaryOp.{UnaryOp}
use Rattle.zpl_nums.specs.declared.operators.UnaryOp.TheVariants.{Neg, Not, Abs}
use Rattle.zpl_nums.specs.Integer.{IsInteger, wrapped, is_true, negated, absolute}
use Rattle.zpl_nums.specs.Op.{applied}
use Rattle.zpl_nums.specs.UnaryOp.{applied_unary}
use Rattle.zpl_nums.proofs.IntegerLemmas.{IsInteger-truth, IsInteger-wrapped, IsInteger-int_rem}
use Rattle.zpl_nums.proofs.IntegerLemmas.{IsInteger-int_max, IsInteger-int_min}

unless_zero : (zero : Bool) (z : ℤ) → IsInteger z → IfSome (cond zero None (Some z)) IsInteger
unless_zero true z f = tt
unless_zero false z f = f

pub IsInteger-applied : (op : Op) (a b : ℤ) → IsInteger a → IsInteger b
    → IfSome (applied op a b) IsInteger
IsInteger-applied Add a b f g = IsInteger-wrapped (a +ℤ b)
IsInteger-applied Sub a b f g = IsInteger-wrapped (a -ℤ b)
IsInteger-applied Mul a b f g = IsInteger-wrapped (a *ℤ b)
IsInteger-applied Div a b f g =
    unless_zero (int_eq b (pos 0)) (wrapped (int_div a b)) (IsInteger-wrapped (int_div a b))
IsInteger-applied Rem a b f g =
    unless_zero (int_eq b (pos 0)) (int_rem a b) (IsInteger-int_rem a b f)
IsInteger-applied Eq a b f g = IsInteger-truth (int_eq a b)
IsInteger-applied Ne a b f g = IsInteger-truth (not (int_eq a b))
IsInteger-applied Lt a b f g = IsInteger-truth (int_lt a b)
IsInteger-applied Le a b f g = IsInteger-truth (int_le a b)
IsInteger-applied Gt a b f g = IsInteger-truth (int_lt b a)
IsInteger-applied Ge a b f g = IsInteger-truth (int_le b a)
IsInteger-applied And a b f g = IsInteger-truth (is_true a && is_true b)
IsInteger-applied Or a b f g = IsInteger-truth (is_true a || is_true b)
IsInteger-applied Max a b f g = IsInteger-int_max a b f g
IsInteger-applied Min a b f g = IsInteger-int_min a b f g

pub IsInteger-negated : (a : ℤ) → IsInteger (negated a)
IsInteger-negated a = IsInteger-wrapped (pos 0 -ℤ a)

pub IsInteger-absolute : (a : ℤ) → IsInteger a → IsInteger (absolute a)
IsInteger-absolute a f = IsInteger-int_max a (negated a) f (IsInteger-negated a)

pub IsInteger-applied_unary : (op : UnaryOp) (a : ℤ) → IsInteger a → IsInteger (applied_unary op a)
IsInteger-applied_unary Neg a f = IsInteger-negated a
IsInteger-applied_unary Not a f = IsInteger-truth (not (is_true a))
IsInteger-applied_unary Abs a f = IsInteger-absolute a f

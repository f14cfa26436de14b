-- What each binary operator gives.
use Rattle.std.specs.Prelude.{◌≡◌, ⊤, not, ◌&&◌, ◌||◌, ◌⊎◌, Option, Some, None, if◌then◌else◌}
use Rattle.std.specs.Prelude.{ℤ, pos, ◌+ℤ◌, ◌-ℤ◌, ◌*ℤ◌, int_lt, int_le, int_div, int_rem}
use Rattle.std.specs.Int.{int_max, int_min}
use Rattle.std.specs.Ordering.{int_eq}
use Rattle.zpl_nums.specs.declared.operators.Op.{Op}
use Rattle.zpl_nums.specs.declared.operators.Op.TheVariants.{Add, Sub, Mul, Div, Rem}
use Rattle.zpl_nums.specs.declared.operators.Op.TheVariants.{Eq, Ne, Lt, Le, Gt, Ge, And, Or, Max}
use Rattle.zpl_nums.specs.declared.operators.Op.TheVariants.{Min}
use Rattle.zpl_nums.specs.Integer.{wrapped, truth, is_true}

-- `int_div` is truncated toward zero, and `int_rem` has the dividend's sign
abbrev pub applied : Op → ℤ → ℤ → Option ℤ
applied Add a b = Some (wrapped (a +ℤ b))
applied Sub a b = Some (wrapped (a -ℤ b))
applied Mul a b = Some (wrapped (a *ℤ b))
applied Div a b = if int_eq b (pos 0) then None else Some (wrapped (int_div a b))
applied Rem a b = if int_eq b (pos 0) then None else Some (int_rem a b)
applied Eq a b = Some (truth (int_eq a b))
applied Ne a b = Some (truth (not (int_eq a b)))
applied Lt a b = Some (truth (int_lt a b))
applied Le a b = Some (truth (int_le a b))
applied Gt a b = Some (truth (int_lt b a))
applied Ge a b = Some (truth (int_le b a))
applied And a b = Some (truth (is_true a && is_true b))
applied Or a b = Some (truth (is_true a || is_true b))
applied Max a b = Some (int_max a b)
applied Min a b = Some (int_min a b)

-- the operator is the division or the remainder
abbrev pub Divides : Op → Type 0
Divides op = (op ≡ Div) ⊎ (op ≡ Rem)

-- the operator answers a truth value
abbrev pub Tests : Op → Type 0
Tests Add = ⊥
Tests Sub = ⊥
Tests Mul = ⊥
Tests Div = ⊥
Tests Rem = ⊥
Tests Eq = ⊤
Tests Ne = ⊤
Tests Lt = ⊤
Tests Le = ⊤
Tests Gt = ⊤
Tests Ge = ⊤
Tests And = ⊤
Tests Or = ⊤
Tests Max = ⊥
Tests Min = ⊥

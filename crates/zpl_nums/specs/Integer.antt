-- The integers of the language, as mathematical integers: their range, wrapping, and truth values.
use Rattle.std.specs.Prelude.{◌≡◌, ◌-◌, ◌^◌, Bool, true, false, not, ◌⊎◌}
use Rattle.std.specs.Prelude.{ℤ, pos, negsuc, ◌-ℤ◌, FitsSigned}
use Rattle.std.specs.Int.{int_wrap, int_max}
use Rattle.std.specs.Ordering.{int_eq}
use mir.Syntax.{w64}

-- the least and the greatest integer, -2^63 and 2^63 - 1
abbrev pub least : ℤ
least = negsuc (2 ^ 63 - 1)

abbrev pub greatest : ℤ
greatest = pos (2 ^ 63 - 1)

-- z is from the least to the greatest integer
abbrev pub IsInteger : ℤ → Type 0
IsInteger z = FitsSigned w64 z

-- the integer that differs from z by a multiple of 2^64
abbrev pub wrapped : ℤ → ℤ
wrapped z = int_wrap w64 z

-- a truth value, as a number
abbrev pub truth : Bool → ℤ
truth true = pos 1
truth false = pos 0

-- whether a number stands for true: any number but 0 does
abbrev pub is_true : ℤ → Bool
is_true z = not (int_eq z (pos 0))

-- z is 0 or 1
abbrev pub IsTruth : ℤ → Type 0
IsTruth z = (z ≡ pos 0) ⊎ (z ≡ pos 1)

-- the operators on one operand: negation, the absolute value (of the least integer itself), and
-- `not` of a truth value
abbrev pub negated : ℤ → ℤ
negated z = wrapped (pos 0 -ℤ z)

abbrev pub absolute : ℤ → ℤ
absolute z = int_max z (negated z)

abbrev pub denied : ℤ → ℤ
denied z = truth (not (is_true z))

-- What each operator on one operand gives.
use Rattle.std.specs.Prelude.{ℤ}
use Rattle.zpl_nums.specs.declared.operators.UnaryOp.{UnaryOp}
use Rattle.zpl_nums.specs.declared.operators.UnaryOp.TheVariants.{Neg, Not, Abs}
use Rattle.zpl_nums.specs.Integer.{negated, denied, absolute}

abbrev pub applied_unary : UnaryOp → ℤ → ℤ
applied_unary Neg z = negated z
applied_unary Not z = denied z
applied_unary Abs z = absolute z

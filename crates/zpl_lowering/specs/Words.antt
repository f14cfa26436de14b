-- Expressions of scalars, and names in expressions.
use Rattle.std.specs.Prelude.{ℕ, ℤ, pos, List, Option, Some, None, slice_get}
use Rattle.zpl_meaning.specs.of_zpl_nums.Integer.{truth}
use Rattle.zpl_meaning.specs.of_zpl_tree.Syntax.{Expr, Number, Truth, Coord, Named, Shifted, Around, Remap, Call, Paren, Neg, Not, Abs, Pair, Reduce, Scan, Flood}
use Rattle.zpl_meaning.specs.Store.{Thing, Scalar, ArrayAt, Fixed, thing_of}
use Rattle.text_sharing.specs.of_node_form.Expression.{Expression, Constant, Variable, Operation, Negation, Denial, Absolute}
use Rattle.zpl_lowering.specs.Where.{Numbers, Where}

-- one that has no number, as none of an accepted program, counts as 0
abbrev pub variable_code : Option ℕ → Expression
variable_code None = Constant (pos 0)
variable_code (Some k) = Variable k

abbrev pub thing_code : Numbers → Option Thing → Expression
thing_code numbers (Some (Scalar place)) = variable_code (slice_get numbers.scalars place)
thing_code numbers (Some (Fixed value)) = Constant value
thing_code numbers (Some (ArrayAt place home)) = Constant (pos 0)
thing_code numbers None = Constant (pos 0)

-- an expression that has a value by itself: a bound has no other
abbrev pub scalar_code : Where → Expr → Expression
scalar_code w (Number at value) = Constant value
scalar_code w (Truth at value) = Constant (truth value)
scalar_code w (Named at name) = thing_code w.numbers (thing_of w.environment name.text)
scalar_code w (Paren at inside) = scalar_code w inside
scalar_code w (Neg at operand) = Negation (scalar_code w operand)
scalar_code w (Not at operand) = Denial (scalar_code w operand)
scalar_code w (Abs at operand) = Absolute (scalar_code w operand)
scalar_code w (Pair at op left right) =
    Operation op (scalar_code w left) (scalar_code w right)
scalar_code w (Coord at k) = Constant (pos 0)
scalar_code w (Shifted at name shift) = Constant (pos 0)
scalar_code w (Around at name shift) = Constant (pos 0)
scalar_code w (Remap at name indices) = Constant (pos 0)
scalar_code w (Call at name actuals) = Constant (pos 0)
scalar_code w (Reduce at operator over operand) = Constant (pos 0)
scalar_code w (Scan at operator along operand) = Constant (pos 0)
scalar_code w (Flood at source operand) = Constant (pos 0)

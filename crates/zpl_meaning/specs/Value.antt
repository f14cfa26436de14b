-- The value of an expression of rank 0 without operators over regions: a bound of a region is one.
use Rattle.std.specs.Prelude.{ℤ, pos, Option, Some, None}
use Rattle.zpl_binding.specs.of_zpl_nums.Integer.{truth, negated, absolute, denied}
use Rattle.zpl_binding.specs.of_zpl_nums.Op.{applied}
use Rattle.zpl_binding.specs.of_zpl_tree.Syntax.{Expr, Number, Truth, Coord, Named, Shifted, Around, Remap, Call}
use Rattle.zpl_binding.specs.of_zpl_tree.Syntax.{Paren, Neg, Not, Abs, Pair, Reduce, Scan, Flood}
use Rattle.zpl_meaning.specs.Computed.{Computed, Gives, computed_then, both_then, given}
use Rattle.zpl_meaning.specs.Store.{Thing, Scalar, ArrayAt, Fixed, Environment, Store, thing_of}
use Rattle.zpl_meaning.specs.Store.{scalar_at}

-- the value of what a name stands for; a name of no scalar, as none of an accepted program is here,
-- counts as 0
abbrev pub thing_value : Store → Option Thing → ℤ
thing_value store (Some (Scalar place)) = scalar_at store place
thing_value store (Some (Fixed value)) = value
thing_value store (Some (ArrayAt place home)) = pos 0
thing_value store None = pos 0

-- Both operands always. A form that no accepted program has here counts as 0.
abbrev pub value_of : Environment → Store → Expr → Computed ℤ
value_of environment store (Number at value) = Gives value
value_of environment store (Truth at value) = Gives (truth value)
value_of environment store (Named at name) =
    Gives (thing_value store (thing_of environment name.text))
value_of environment store (Paren at inside) = value_of environment store inside
value_of environment store (Neg at operand) =
    computed_then (value_of environment store operand) (λ value. Gives (negated value))
value_of environment store (Not at operand) =
    computed_then (value_of environment store operand) (λ value. Gives (denied value))
value_of environment store (Abs at operand) =
    computed_then (value_of environment store operand) (λ value. Gives (absolute value))
value_of environment store (Pair at op left right) =
    both_then (value_of environment store left) (value_of environment store right) (λ first second.
    given (applied op first second))
value_of environment store (Coord at dimension) = Gives (pos 0)
value_of environment store (Shifted at name shift) = Gives (pos 0)
value_of environment store (Around at name shift) = Gives (pos 0)
value_of environment store (Remap at name indices) = Gives (pos 0)
value_of environment store (Call at name actuals) = Gives (pos 0)
value_of environment store (Reduce at operator over operand) = Gives (pos 0)
value_of environment store (Scan at operator along operand) = Gives (pos 0)
value_of environment store (Flood at source operand) = Gives (pos 0)

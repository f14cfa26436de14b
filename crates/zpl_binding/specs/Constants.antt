-- The values of configs and constants, and of the expressions in declarations.
use Rattle.std.specs.Prelude.{ℕ, ℤ, pos, List, Option, Some, None}
use Rattle.zpl_tree.specs.of_zpl_nums.Integer.{truth, negated, absolute, denied}
use Rattle.zpl_tree.specs.of_zpl_nums.Op.{applied}
use Rattle.zpl_tree.specs.Syntax.{Expr, Number, Truth, Coord, Named, Shifted, Around, Remap, Call, Paren, Neg, Not, Abs, Pair, Reduce, Scan, Flood, Define}
use Rattle.zpl_binding.specs.Outcome.{ConfigType, BadConstant, Outcome, Gives, Fails, and_then, Computed, outcome_of}
use Rattle.zpl_binding.specs.Settings.{value_in}

-- the value of an operator, where no divisor is 0
abbrev pub given : Option ℤ → Outcome ℤ
given (Some value) = Gives value
given None = Fails BadConstant

-- The value of an expression over those of configs and constants. A form that no declaration and no
-- vector of an accepted program has counts as 0.
abbrev pub value_of : List (Computed ℤ) → Expr → Outcome ℤ
value_of values (Number at value) = Gives value
value_of values (Truth at value) = Gives (truth value)
value_of values (Named at name) = outcome_of (pos 0) values name.text
value_of values (Paren at inside) = value_of values inside
value_of values (Neg at operand) =
    and_then (value_of values operand) (λ value. Gives (negated value))
value_of values (Not at operand) =
    and_then (value_of values operand) (λ value. Gives (denied value))
value_of values (Abs at operand) =
    and_then (value_of values operand) (λ value. Gives (absolute value))
value_of values (Pair at op left right) =
    and_then (value_of values left) (λ first.
    and_then (value_of values right) (λ second. given (applied op first second)))
value_of values (Coord at dimension) = Gives (pos 0)
value_of values (Shifted at name shift) = Gives (pos 0)
value_of values (Around at name shift) = Gives (pos 0)
value_of values (Remap at name indices) = Gives (pos 0)
value_of values (Call at name actuals) = Gives (pos 0)
value_of values (Reduce at operator over operand) = Gives (pos 0)
value_of values (Scan at operator along operand) = Gives (pos 0)
value_of values (Flood at source operand) = Gives (pos 0)

abbrev pub constant_value : List (Computed ℤ) → Define → Outcome ℤ
constant_value values define = value_of values define.value

-- the value of a config's type that a text is
abbrev pub taken : Option ℤ → Outcome ℤ
taken None = Fails ConfigType
taken (Some value) = Gives value

-- A config that is set to a text has the value of that; its default isn't computed then.
abbrev pub config_value : Option (List ℕ) → List (Computed ℤ) → Define → Outcome ℤ
config_value None values define = value_of values define.value
config_value (Some text) values define = taken (value_in define.base text)

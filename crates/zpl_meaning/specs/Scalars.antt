-- Expressions of numbers, truth values, names of scalars and operators on them: those that have a
-- value by themselves.
use Rattle.std.specs.Prelude.{ℤ, List, [], ◌∷◌, Option, Some, None}
use Rattle.zpl_binding.specs.of_zpl_tree.Syntax.{Expr, Number, Truth, Coord, Named, Shifted, Around, Remap, Call}
use Rattle.zpl_binding.specs.of_zpl_tree.Syntax.{Paren, Neg, Not, Abs, Pair, Reduce, Scan, Flood}
use Rattle.zpl_meaning.specs.Computed.{Computed, Gives, both_then}
use Rattle.zpl_meaning.specs.Store.{Thing, Scalar, ArrayAt, Fixed, Environment, Store, thing_of}
use Rattle.zpl_meaning.specs.Value.{value_of}
use Rattle.zpl_meaning.specs.Settled.{Placed}

-- it isn't an array's
abbrev pub IsScalarName : Option Thing → Type 0
IsScalarName (Some (ArrayAt place home)) = ⊥
IsScalarName (Some (Scalar place)) = Unit {0}
IsScalarName (Some (Fixed value)) = Unit {0}
IsScalarName None = Unit {0}

abbrev pub IsScalar : Environment → Expr → Type 0
IsScalar environment (Number at value) = Unit {0}
IsScalar environment (Truth at value) = Unit {0}
IsScalar environment (Named at name) = IsScalarName (thing_of environment name.text)
IsScalar environment (Paren at inside) = IsScalar environment inside
IsScalar environment (Neg at operand) = IsScalar environment operand
IsScalar environment (Not at operand) = IsScalar environment operand
IsScalar environment (Abs at operand) = IsScalar environment operand
IsScalar environment (Pair at op left right) =
    IsScalar environment left × IsScalar environment right
IsScalar environment (Coord at k) = ⊥
IsScalar environment (Shifted at name shift) = ⊥
IsScalar environment (Around at name shift) = ⊥
IsScalar environment (Remap at name indices) = ⊥
IsScalar environment (Call at name actuals) = ⊥
IsScalar environment (Reduce at operator over operand) = ⊥
IsScalar environment (Scan at operator along operand) = ⊥
IsScalar environment (Flood at source operand) = ⊥

abbrev pub AreScalars : Environment → List Placed → Type 0
AreScalars environment [] = Unit {0}
AreScalars environment (placed ∷ rest) =
    IsScalar environment placed.expr × AreScalars environment rest

-- the values of expressions, one after the other; the first trap counts
abbrev pub values_of : Environment → Store → List Placed → Computed (List ℤ)
values_of environment store [] = Gives []
values_of environment store (placed ∷ rest) =
    both_then (value_of environment store placed.expr) (values_of environment store rest)
    (λ value values. Gives (value ∷ values))

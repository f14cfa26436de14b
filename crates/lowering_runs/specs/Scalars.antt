-- Expressions of scalars, by their text.
use Rattle.std.specs.Prelude.{ℤ}
use Rattle.zpl_nums.specs.Integer.{IsInteger}
use Rattle.zpl_nums.specs.declared.ends.TrapKind.TheVariants.{DivideByZero}
use Rattle.zpl_tree.specs.Syntax.{Expr, Number, Truth, Coord, Named, Shifted, Around, Remap, Call, Paren, Neg, Not, Abs, Pair, Reduce, Scan, Flood}
use Rattle.lowering_fits.specs.of_zpl_meaning.Computed as mean
use Rattle.lowering_fits.specs.of_zpl_meaning.Context.{Place}
use Rattle.lowering_fits.specs.of_zpl_meaning.Scalars.{IsScalar}
use Rattle.node_form.specs.Value as flat

-- numbers of 64 bits, truth values, names and operators on them
abbrev pub IsScalarExpr : Expr → Type 0
IsScalarExpr (Number at value) = IsInteger value
IsScalarExpr (Truth at value) = Unit {0}
IsScalarExpr (Named at name) = Unit {0}
IsScalarExpr (Paren at inside) = IsScalarExpr inside
IsScalarExpr (Neg at operand) = IsScalarExpr operand
IsScalarExpr (Not at operand) = IsScalarExpr operand
IsScalarExpr (Abs at operand) = IsScalarExpr operand
IsScalarExpr (Pair at op left right) = IsScalarExpr left × IsScalarExpr right
IsScalarExpr (Coord at k) = ⊥
IsScalarExpr (Shifted at name shift) = ⊥
IsScalarExpr (Around at name shift) = ⊥
IsScalarExpr (Remap at name indices) = ⊥
IsScalarExpr (Call at name actuals) = ⊥
IsScalarExpr (Reduce at operator over operand) = ⊥
IsScalarExpr (Scan at operator along operand) = ⊥
IsScalarExpr (Flood at source operand) = ⊥

-- at a place: no name in it is an array's
abbrev pub IsScalarAt : Place → Expr → Type 0
IsScalarAt place expr = IsScalarExpr expr × IsScalar place.environment expr

-- The meaning and the code give the same integer, or both divide by 0.
pub data IsSameValue : mean.Computed ℤ → flat.Computed ℤ → Type 0 where
  BothGive : {value : ℤ} → IsInteger value → IsSameValue (mean.Gives value) (flat.Gives value)
  BothDivide : IsSameValue (mean.Traps DivideByZero) flat.Divides

-- The base type of expressions. It follows from the text alone.
use Rattle.std.specs.Prelude.{Bool, true, false, ◌&&◌, ◌||◌, Option, Some, None}
use Rattle.zpl_tree.specs.of_zpl_nums.declared.operators.Op.{Op}
use Rattle.zpl_tree.specs.of_zpl_nums.declared.operators.Op.TheVariants as op
use Rattle.zpl_tree.specs.of_zpl_nums.declared.folds.Fold.{Fold}
use Rattle.zpl_tree.specs.of_zpl_nums.declared.folds.Fold.TheVariants as fold
use Rattle.zpl_tree.specs.Syntax.{Expr, Number, Truth, Coord, Named, Shifted, Call, Paren, Neg, Not, Abs, Pair, Reduce, Scan, Flood, Exprs, NoExpr, ThenExpr, Base, Integer, Boolean}
use Rattle.zpl_tree.specs.Syntax.{Around, Remap}
use Rattle.zpl_names.specs.Kinds.{Kind, Config, Constant, Scalar, Array, Procedure}
use Rattle.zpl_names.specs.Scope.{Scope, kind_of}

-- the base type of a name's value, or none where it has none
abbrev pub kind_base : Option Kind → Option Base
kind_base (Some (Config base)) = Some base
kind_base (Some (Constant base)) = Some base
kind_base (Some (Scalar base)) = Some base
kind_base (Some (Array base shape)) = Some base
kind_base _ = None

-- the base type that a procedure answers, or none where it answers nothing
abbrev pub result_base : Option Kind → Option Base
result_base (Some (Procedure signature)) = signature.result
result_base _ = None

-- comparisons, `&` and `|` answer a boolean
abbrev pub op_base : Op → Base
op_base op.Eq = Boolean
op_base op.Ne = Boolean
op_base op.Lt = Boolean
op_base op.Le = Boolean
op_base op.Gt = Boolean
op_base op.Ge = Boolean
op_base op.And = Boolean
op_base op.Or = Boolean
op_base _ = Integer

-- `&` and `|` take booleans
abbrev pub takes_booleans : Op → Bool
takes_booleans op.And = true
takes_booleans op.Or = true
takes_booleans _ = false

abbrev pub fold_base : Fold → Base
fold_base fold.All = Boolean
fold_base fold.Any = Boolean
fold_base _ = Integer

-- the base type of an expression, or none where a fault leaves it open
abbrev pub type_of : Scope → Expr → Option Base
type_of scope (Number at value) = Some Integer
type_of scope (Truth at value) = Some Boolean
type_of scope (Coord at dimension) = Some Integer
type_of scope (Named at name) = kind_base (kind_of scope name)
type_of scope (Shifted at name shift) = kind_base (kind_of scope name)
type_of scope (Around at name shift) = kind_base (kind_of scope name)
type_of scope (Remap at name indices) = kind_base (kind_of scope name)
type_of scope (Call at name actuals) = result_base (kind_of scope name)
type_of scope (Paren at inside) = type_of scope inside
type_of scope (Neg at operand) = Some Integer
type_of scope (Not at operand) = Some Boolean
type_of scope (Abs at operand) = Some Integer
type_of scope (Pair at op left right) = Some (op_base op)
type_of scope (Reduce at operator over operand) = Some (fold_base operator)
type_of scope (Scan at operator along operand) = Some (fold_base operator)
type_of scope (Flood at source operand) = type_of scope operand

abbrev pub is_integer : Option Base → Bool
is_integer (Some Integer) = true
is_integer _ = false

abbrev pub is_boolean : Base → Bool
is_boolean Boolean = true
is_boolean _ = false

-- two types that differ; one that is no type of the language is another fault
abbrev pub types_differ : Base → Option Base → Bool
types_differ Integer (Some Boolean) = true
types_differ Boolean (Some Integer) = true
types_differ base other = false

-- ---- what stands in an expression

abbrev mutual
  -- a reduction, a scan, a flood or a remap read stands in it
  pub has_parallel : Expr → Bool
  has_parallel (Number at value) = false
  has_parallel (Truth at value) = false
  has_parallel (Coord at dimension) = false
  has_parallel (Named at name) = false
  has_parallel (Shifted at name shift) = false
  has_parallel (Around at name shift) = false
  has_parallel (Remap at name indices) = true
  has_parallel (Call at name actuals) = have_parallel actuals
  has_parallel (Paren at inside) = has_parallel inside
  has_parallel (Neg at operand) = has_parallel operand
  has_parallel (Not at operand) = has_parallel operand
  has_parallel (Abs at operand) = has_parallel operand
  has_parallel (Pair at op left right) = has_parallel left || has_parallel right
  has_parallel (Reduce at operator over operand) = true
  has_parallel (Scan at operator along operand) = true
  has_parallel (Flood at source operand) = true

  pub have_parallel : Exprs → Bool
  have_parallel NoExpr = false
  have_parallel (ThenExpr first rest) = has_parallel first || have_parallel rest

-- Elementwise: without `@`, `@^`, parallel operator, remap read and call.
abbrev pub is_elementwise : Expr → Bool
is_elementwise (Number at value) = true
is_elementwise (Truth at value) = true
is_elementwise (Coord at dimension) = true
is_elementwise (Named at name) = true
is_elementwise (Paren at inside) = is_elementwise inside
is_elementwise (Neg at operand) = is_elementwise operand
is_elementwise (Not at operand) = is_elementwise operand
is_elementwise (Abs at operand) = is_elementwise operand
is_elementwise (Pair at op left right) = is_elementwise left && is_elementwise right
is_elementwise (Shifted at name shift) = false
is_elementwise (Around at name shift) = false
is_elementwise (Remap at name indices) = false
is_elementwise (Call at name actuals) = false
is_elementwise (Reduce at operator over operand) = false
is_elementwise (Scan at operator along operand) = false
is_elementwise (Flood at source operand) = false

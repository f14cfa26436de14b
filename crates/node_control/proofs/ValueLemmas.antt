-- Expressions that need no index have one value, wherever they are computed.
use Rattle.std.proofs.Common.{◌≡◌, ℕ, List, [], ◌∷◌, refl, sym, ap, ◌∙◌, ℤ}
use Rattle.std.specs.Prelude.{Option, Some, None, All, Result, Ok, Err, slice_get}
use Rattle.std.specs.Option.{IsSomeAnd}
use Rattle.std.specs.Result.{result_ok}
use Rattle.std.proofs.lemmas.List.Elements.{All-head, All-tail}
use Rattle.node_form.specs.declared.tables.Tables.{Tables}
use Rattle.node_form.specs.declared.words.ExprOp.{ExprOp}
use Rattle.node_form.specs.declared.words.ExprOp.TheVariants.{Const, Scalar, Here, Shifted, Cell, Coord, Pair, Neg, Not, Abs}
use Rattle.node_form.specs.Fits.{HasScalarExpr, IsScalarWord}
use Rattle.node_form.specs.Group.{operands_at}
use Rattle.node_form.specs.Value.{Computed, Gives, Divides, Lacks, Operands, and_then, divided, evaluated, only_value, read, scalar_operands, stepped, value_of}
use Rattle.grid_meaning.specs.Local.{Local}
use Rattle.grid_meaning.specs.Loop.{access_at, point_of}
use Rattle.grid_meaning.specs.Turn.{expression_value}
use Rattle.node_local.specs.declared.values.NoValue.{NoValue}
use Rattle.node_local.specs.declared.values.NoValue.TheVariants as no
use Rattle.node_local.specs.Computing.{computed_by, value_here}

scalar_step : (operands : Operands) (word : ExprOp) (stack : List ℤ) → IsScalarWord word
    → stepped operands word stack ≡ stepped (scalar_operands operands.scalars) word stack
scalar_step operands (Const value) stack scalar = refl
scalar_step operands (Scalar s) stack scalar = refl
scalar_step operands (Here array) stack scalar = absurd scalar
scalar_step operands (Shifted array shift) stack scalar = absurd scalar
scalar_step operands (Cell cell) stack scalar = absurd scalar
scalar_step operands (Coord dimension) stack scalar = absurd scalar
scalar_step operands (Pair op) [] scalar = refl
scalar_step operands (Pair op) (right ∷ []) scalar = refl
scalar_step operands (Pair op) (right ∷ left ∷ stack) scalar = refl
scalar_step operands Neg [] scalar = refl
scalar_step operands Neg (value ∷ stack) scalar = refl
scalar_step operands Not [] scalar = refl
scalar_step operands Not (value ∷ stack) scalar = refl
scalar_step operands Abs [] scalar = refl
scalar_step operands Abs (value ∷ stack) scalar = refl

scalar_evaluated : (operands : Operands) (words : List ExprOp) (stack : List ℤ) → All IsScalarWord words
    → evaluated operands words stack ≡ evaluated (scalar_operands operands.scalars) words stack
scalar_evaluated operands [] stack all = refl
scalar_evaluated operands (word ∷ words) stack all =
    ap (and_then (evaluated operands words)) (scalar_step operands word stack (All-head IsScalarWord word words all))
    ∙ by (stepped (scalar_operands operands.scalars) word stack)
    (λ next. scalar_evaluated operands words next (All-tail IsScalarWord word words all))
  where
    by : (found : Computed (List ℤ))
        → ((next : List ℤ) → evaluated operands words next ≡ evaluated (scalar_operands operands.scalars) words next)
        → and_then (evaluated operands words) found ≡ and_then (evaluated (scalar_operands operands.scalars) words) found
    by (Gives next) rest = rest next
    by Divides rest = refl
    by Lacks rest = refl

pub told_value : (code : Tables) (local : Local) (t : List ℤ) (expr : ℕ) (words : List ExprOp) (result : Result ℤ NoValue)
    → slice_get code.exprs expr ≡ Some words → All IsScalarWord words
    → (value_of (scalar_operands local.scalars) words ≡ Lacks → ⊥)
    → value_here local t words ≡ computed_by result
    → expression_value code local expr ≡ divided (result_ok result)
told_value code local t expr words result here scalar held told =
    ap (λ found. and_then (value_of (scalar_operands local.scalars)) (read found)) here
    ∙ by result
    (sym (ap (and_then only_value) (scalar_evaluated (operands_at (access_at t) (point_of local)) words [] scalar)) ∙ told)
  where
    by : (r : Result ℤ NoValue) → value_of (scalar_operands local.scalars) words ≡ computed_by r
        → value_of (scalar_operands local.scalars) words ≡ divided (result_ok r)
    by (Ok value) e = e
    by (Err no.Divides) e = e
    by (Err no.Lacks) e = absurd (held e)

-- ---- an expression by its number
pub record IsThere (code : Tables) (expr : ℕ) : Type 0 where
  pub words : List ExprOp
  pub found : slice_get code.exprs expr ≡ Some words
  pub scalar : All IsScalarWord words

pub there : (code : Tables) (expr : ℕ) → HasScalarExpr code expr → IsThere code expr
there code expr has = by (slice_get code.exprs expr) refl has
  where
    by : (found : Option (List ExprOp)) → slice_get code.exprs expr ≡ found → IsSomeAnd found (All IsScalarWord) → IsThere code expr
    by None is all = absurd all
    by (Some words) is all = record { words = words; found = is; scalar = all }

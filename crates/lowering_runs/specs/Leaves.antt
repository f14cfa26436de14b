-- What is asked of the statements of scalars that have no statements in them, at their places.
use Rattle.std.specs.Prelude.{◌≡◌, ℕ, true, false, ℤ, List, [], ◌∷◌, length, Option, Some, IsSome}
use Rattle.zpl_nums.specs.declared.operators.Op.{Op}
use Rattle.zpl_tree.specs.Syntax.{Name, Expr, Exprs, NoExpr, ThenExpr, Item, Str, Value, Form, Assign, Invoke, Block, If, While, Repeat, For, Border, Write, Return}
use Rattle.zpl_names.specs.Kinds.{Formal, ScalarFormal, ArrayFormal}
use Rattle.zpl_names.specs.Scope.{kind_of}
use Rattle.zpl_names.specs.Sites.{Printed}
use Rattle.lowering_fits.specs.of_zpl_meaning.Store.{Store, thing_of}
use Rattle.lowering_fits.specs.of_zpl_meaning.Context.{Setup, Place, reach_of, rank_in}
use Rattle.lowering_fits.specs.of_zpl_meaning.Points.{assigned_expr}
use Rattle.lowering_fits.specs.of_zpl_meaning.Calls.{formals_in, actual_thing, handed_on, value_exprs}
use Rattle.lowering_fits.specs.of_zpl_meaning.Proper.{IsTarget}
use Rattle.lowering_fits.specs.of_zpl_meaning.Visited.{IsVisitedCall}
use Rattle.lowering_fits.specs.of_zpl_lowering.Where.{Where}
use Rattle.lowering_runs.specs.Scalars.{IsScalarExpr, IsScalarAt}

-- a scalar is assigned
pub record IsScalarAssigned (name : Name) (op : Option Op) (value : Expr) (w : Where) (p : Place)
    : Type 0 where
  pub scalar : IsScalarExpr (assigned_expr name op value)
  pub target : IsTarget p.currents (Some 0) (thing_of p.environment name.text)
  pub value_is : IsScalarAt p (assigned_expr name op value)

-- texts and scalars are printed
abbrev pub AreScalarItems : Place → List Item → Type 0
AreScalarItems place [] = Unit {0}
AreScalarItems place (Str bytes ∷ items) = AreScalarItems place items
AreScalarItems place (Value expr ∷ items) =
    (rank_in place Printed expr ≡ Some 0) × IsScalarAt place expr × AreScalarItems place items

-- what parameters of scalars take, and references; arrays by value are left out
abbrev pub AreServedActuals : Place → List Formal → Exprs → Type 0
AreServedActuals place [] actuals = Unit {0}
AreServedActuals place (formal ∷ formals) NoExpr = Unit {0}
AreServedActuals place (ScalarFormal false base ∷ formals) (ThenExpr actual rest) =
    IsScalarAt place actual × AreServedActuals place formals rest
AreServedActuals place (ScalarFormal true base ∷ formals) (ThenExpr actual rest) =
    IsSome (actual_thing place.environment actual) × AreServedActuals place formals rest
AreServedActuals place (ArrayFormal true base shape ∷ formals) (ThenExpr actual rest) =
    IsSome (actual_thing place.environment actual) × AreServedActuals place formals rest
AreServedActuals place (ArrayFormal false base shape ∷ formals) (ThenExpr actual rest) = ⊥

module _ (setup : Setup) (IsCallable : List ℕ → Type 0) where
  -- a procedure without a result is called
  pub record IsServedInvoke (name : Name) (actuals : Exprs) (w : Where) (p : Place) : Type 0 where
    pub setup_is : p.setup ≡ setup
    pub callable : IsCallable name.text
    pub actuals_are : AreServedActuals p (formals_in (kind_of p.scope name)) actuals
    pub visited : (values : List ℤ) (before : Store)
        → length values ≡ length (value_exprs p (formals_in (kind_of p.scope name)) actuals)
        → IsVisitedCall setup (record {
          name = name.text;
          actuals = handed_on p.environment before (formals_in (kind_of p.scope name)) actuals values;
          currents = p.currents;
          result = 0;
        })

  abbrev pub ScalarLeaf : ℕ → Form → Where → Place → Type 0
  ScalarLeaf at (Assign name op value) w p = IsScalarAssigned name op value w p
  ScalarLeaf at (Invoke name actuals) w p = IsServedInvoke name actuals w p
  ScalarLeaf at (Write ends items) w p = AreScalarItems p items
  ScalarLeaf at (Block body) w p = ⊥
  ScalarLeaf at (If arms otherwise) w p = ⊥
  ScalarLeaf at (While test body) w p = ⊥
  ScalarLeaf at (Repeat body until test) w p = ⊥
  ScalarLeaf at (For head body) w p = ⊥
  ScalarLeaf at (Border kind names) w p = ⊥
  ScalarLeaf at (Return value) w p = ⊥

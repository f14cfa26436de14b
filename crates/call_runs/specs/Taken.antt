-- Calls whose parameters take values, references, and copies of arrays.
use Rattle.std.specs.Prelude.{◌≡◌, ℕ, suc, ◌≤◌, true, false, ℤ, List, [], ◌∷◌, length, Option, Some, None, IsSome, slice_get}
use Rattle.zpl_tree.specs.Syntax.{Name, Expr, Exprs, NoExpr, ThenExpr}
use Rattle.zpl_names.specs.Kinds.{Formal, ScalarFormal, ArrayFormal}
use Rattle.zpl_names.specs.Scope.{kind_of}
use Rattle.zpl_meaning.specs.Store.{Thing, Scalar, ArrayAt, Fixed, Store}
use Rattle.zpl_meaning.specs.Context.{Place}
use Rattle.zpl_meaning.specs.Calls.{Called, formals_in, actual_thing, handed_on, value_exprs}
use Rattle.flat_form.specs.Whole.{Whole}
use Rattle.prefix_runs.specs.of_zpl_lowering.Where.{Stored, Where, Next}
use Rattle.prefix_runs.specs.of_zpl_lowering.Statement.{Given, Valued, Copied, Referring, given_to}
use Rattle.prefix_runs.specs.of_lowering_runs.Seen.{Spot, numbered}
use Rattle.prefix_runs.specs.of_lowering_runs.Run.{does}
use Rattle.prefix_runs.specs.of_lowering_runs.Agrees.{Agrees}
use Rattle.prefix_runs.specs.of_lowering_runs.Stands.{IsBefore, IsKnown, Stands, HasRoom, IsLike}
use Rattle.prefix_runs.specs.of_lowering_runs.Called.{calling_at, called_at}
use Rattle.prefix_runs.specs.of_lowering_runs.Goes.{World}

-- an array of the store
abbrev pub IsAmong : List Stored → Stored → Type 0
IsAmong arrays stored = (place : ℕ) × (slice_get arrays place ≡ Some stored)

-- values for parameters stand in scalars that rise, what is referred to is there, and so is what is
-- copied
abbrev pub AllGiven : ℕ → List Stored → ℕ → List Given → ℕ → Type 0
AllGiven scalars arrays from [] to = from ≤ to
AllGiven scalars arrays from (Valued k ∷ givens) to =
    (from ≤ k) × AllGiven scalars arrays (suc k) givens to
AllGiven scalars arrays from (Referring thing ∷ givens) to =
    IsKnown scalars (length arrays) thing × AllGiven scalars arrays from givens to
AllGiven scalars arrays from (Copied stored home ∷ givens) to =
    IsAmong arrays stored × AllGiven scalars arrays from givens to

-- ---- at the call

abbrev pub IsArrayThing : Option Thing → Type 0
IsArrayThing (Some (ArrayAt place home)) = Unit {0}
IsArrayThing (Some (Scalar place)) = ⊥
IsArrayThing (Some (Fixed value)) = ⊥
IsArrayThing None = ⊥

-- values of which something holds, for parameters that take the value of a scalar; and names
module _ (IsValue : Expr → Where → Place → Type 0) (w : Where) (place : Place) where
  abbrev pub AreCallActuals : List Formal → Exprs → Type 0
  AreCallActuals [] actuals = Unit {0}
  AreCallActuals (formal ∷ formals) NoExpr = Unit {0}
  AreCallActuals (ScalarFormal false base ∷ formals) (ThenExpr actual rest) =
      IsValue actual w place × AreCallActuals formals rest
  AreCallActuals (ScalarFormal true base ∷ formals) (ThenExpr actual rest) =
      IsSome (actual_thing place.environment actual) × AreCallActuals formals rest
  AreCallActuals (ArrayFormal true base shape ∷ formals) (ThenExpr actual rest) =
      IsSome (actual_thing place.environment actual) × AreCallActuals formals rest
  AreCallActuals (ArrayFormal false base shape ∷ formals) (ThenExpr actual rest) =
      IsArrayThing (actual_thing place.environment actual) × AreCallActuals formals rest

-- What is said of a call, beside what its parameters take: by where it stands, what it is given in
-- code, and what it is in the meaning.
module _ (IsCalled : Where → List Given → Called → Type 0) where
  -- what is called so, without a result, goes as its code does
  pub record CallsGo (world : World) : Type 0 where
    pub by : (spots : List Spot) (w : Where) (low next : Next) (start : Whole) (name : List ℕ)
        (givens : List Given) (line : ℕ) → Stands spots w low → IsBefore low next
        → AllGiven (length (numbered spots)) w.numbers.arrays low.scalars givens next.scalars
        → HasRoom world.tables next (world.code (calling_at w name givens 0 line) next)
        → (store : Store) (now : Whole) → IsLike world.tables spots w low start store now
        → IsCalled w givens (called_at spots w start now name givens 0)
        → Agrees (IsLike world.tables spots w low start) world.turns 0
        (world.call (called_at spots w start now name givens 0) store)
        (does world.tables world.turns
        (world.code (calling_at w name givens 0 line) next).code now)

  -- a call as a statement, with such values
  pub record IsInvoked (IsValue : Expr → Where → Place → Type 0) (name : Name) (actuals : Exprs)
      (w : Where) (p : Place) : Type 0 where
    pub actuals_are : AreCallActuals IsValue w p (formals_in (kind_of p.scope name)) actuals
    pub from : (scalar : ℕ) (values : List ℤ) (before : Store)
        → length values ≡ length (value_exprs p (formals_in (kind_of p.scope name)) actuals)
        → IsCalled w (given_to w scalar (formals_in (kind_of w.scope name)) actuals) (record {
          name = name.text;
          actuals = handed_on p.environment before (formals_in (kind_of p.scope name)) actuals values;
          currents = p.currents;
          result = 0;
        })

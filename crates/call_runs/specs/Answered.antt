-- Calls that answer, and bodies that end in a `return`.
use Rattle.std.specs.Prelude.{◌≡◌, ℕ, ℤ, pos, List, length, slice_set}
use Rattle.zpl_nums.specs.Integer.{IsInteger}
use Rattle.zpl_tree.specs.Syntax.{Expr, Name, Exprs}
use Rattle.zpl_names.specs.Scope.{kind_of}
use Rattle.zpl_meaning.specs.Store.{Store, thing_of, with_scalar}
use Rattle.zpl_meaning.specs.Context.{Place}
use Rattle.zpl_meaning.specs.Calls.{Called, formals_in, handed_on, value_exprs}
use Rattle.zpl_meaning.specs.Outcome.{Outcome}
use Rattle.zpl_meaning.specs.Proper.{IsVariable}
use Rattle.zpl_meaning.specs.Statement.{Context}
use Rattle.zpl_meaning.specs.Variables.{with_new_scalar}
use Rattle.node_form.specs.declared.tables.Tables.{Tables}
use Rattle.flat_form.specs.Whole.{Whole}
use Rattle.prefix_runs.specs.of_zpl_lowering.Where.{Where, Next}
use Rattle.prefix_runs.specs.of_zpl_lowering.Lowered.{Lowered}
use Rattle.prefix_runs.specs.of_zpl_lowering.Statement.{Given, Lowering, given_to}
use Rattle.prefix_runs.specs.of_lowering_runs.Seen.{Sight, Spot, numbered, seen_place}
use Rattle.prefix_runs.specs.of_lowering_runs.Run.{does}
use Rattle.prefix_runs.specs.of_lowering_runs.Agrees.{Agrees}
use Rattle.prefix_runs.specs.of_lowering_runs.Stands.{IsBefore, Stands, HasRoom, IsLike}
use Rattle.prefix_runs.specs.of_lowering_runs.Called.{calling_at, called_at}
use Rattle.prefix_runs.specs.of_lowering_runs.Goes.{World, context, lowering}
use Rattle.call_runs.specs.Taken.{AllGiven, AreCallActuals}

-- ---- behind a `return`

-- The answer is in its place in the store, and in the scalar that takes it in the state. All else
-- was alike before.
pub record HasReturned (tables : Tables) (sight : Sight) (w : Where) (next : Next) (start : Whole)
    (store : Store) (whole : Whole) : Type 0 where
  pub before : Store
  pub mid : Whole
  pub value : ℤ
  pub integer : IsInteger value
  pub like : IsLike tables sight.spots w next start before mid
  pub store_is : store ≡ with_scalar before sight.answer value
  pub whole_is : whole ≡ record mid { scalars = slice_set mid.scalars w.result value }

-- code that ends in a `return` goes as what it was lowered from
abbrev pub Returns : (world : World) → (Where → Place → Type 0) → (Context → Store → Outcome)
    → (Lowering → Next → Lowered) → ℕ → Type 0
Returns world IsServed run made spare =
    (sight : Sight) (w : Where) (next : Next) (start : Whole) → Stands sight.spots w next
    → IsServed w (seen_place sight w start)
    → HasRoom world.tables next (made (lowering world w) next) → (store : Store) (now : Whole)
    → IsLike world.tables sight.spots w next start store now
    → Agrees (HasReturned world.tables sight w next start) world.turns spare
    (run (context world sight w start) store)
    (does world.tables world.turns (made (lowering world w) next).code now)

-- ---- behind a call that answers into a scalar

-- the answer is in a new place at the end of the store, and in the scalar
pub record HasAnswered (tables : Tables) (spots : List Spot) (w : Where) (next : Next)
    (start : Whole) (target : ℕ) (store : Store) (whole : Whole) : Type 0 where
  pub before : Store
  pub mid : Whole
  pub value : ℤ
  pub integer : IsInteger value
  pub like : IsLike tables spots w next start before mid
  pub store_is : store ≡ with_new_scalar before value
  pub whole_is : whole ≡ record mid { scalars = slice_set mid.scalars target value }

module _ (IsCalled : Where → List Given → Called → Type 0) where
  -- what is called so, with a result, goes as its code does
  pub record CallsAnswer (world : World) : Type 0 where
    pub by : (spots : List Spot) (w : Where) (low next : Next) (start : Whole) (name : List ℕ)
        (givens : List Given) (target line : ℕ) → Stands spots w low → IsBefore low next
        → AllGiven (length (numbered spots)) w.numbers.arrays low.scalars givens next.scalars
        → HasRoom world.tables next (world.code (calling_at w name givens target line) next)
        → (store : Store) (now : Whole) → IsLike world.tables spots w low start store now
        → IsCalled w givens (called_at spots w start now name givens (length spots))
        → Agrees (HasAnswered world.tables spots w low start target) world.turns 0
        (world.call (called_at spots w start now name givens (length spots))
        (with_new_scalar store (pos 0)))
        (does world.tables world.turns
        (world.code (calling_at w name givens target line) next).code now)

  -- the answer of a call with such values is assigned to a scalar
  pub record IsAnswered (IsValue : Expr → Where → Place → Type 0) (name callee : Name)
      (actuals : Exprs) (w : Where) (p : Place) : Type 0 where
    pub variable : IsVariable (thing_of p.environment name.text)
    pub actuals_are : AreCallActuals IsValue w p (formals_in (kind_of p.scope callee)) actuals
    pub from : (scalar result : ℕ) (values : List ℤ) (before : Store)
        → length values ≡ length (value_exprs p (formals_in (kind_of p.scope callee)) actuals)
        → IsCalled w (given_to w scalar (formals_in (kind_of w.scope callee)) actuals) (record {
          name = callee.text;
          actuals = handed_on p.environment before (formals_in (kind_of p.scope callee)) actuals
              values;
          currents = p.currents;
          result = result;
        })

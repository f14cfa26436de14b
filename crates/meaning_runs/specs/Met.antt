-- The statements that a run comes to, each with the place and the store that it finds there.
use Rattle.std.specs.Prelude.{◌≡◌, ℕ, suc, ℤ, pos, false, int_lt, List, [], ◌∷◌, length, Some, None}
use Rattle.zpl_meaning.specs.of_zpl_tree.Syntax.{Name, Call, Exprs, ForHead, Prefix, Program, Stmt, Prefixed}
use Rattle.zpl_meaning.specs.of_zpl_tree.Syntax.{Stmts, Form, Assign, Invoke, For}
use Rattle.zpl_meaning.specs.of_zpl_names.Declared.{Routine, routine_named, entry_of}
use Rattle.zpl_meaning.specs.of_zpl_names.Reached.{longest_chain}
use Rattle.zpl_meaning.specs.of_zpl_binding.Settings.{Setting}
use Rattle.zpl_meaning.specs.of_zpl_binding.Declarations.{known_of}
use Rattle.zpl_meaning.specs.of_zpl_binding.Storages.{borders_of}
use Rattle.zpl_meaning.specs.Computed.{Gives}
use Rattle.zpl_meaning.specs.Store.{Scalar, Store, thing_of, with_scalar}
use Rattle.zpl_meaning.specs.Context.{Over, Setup, Place}
use Rattle.zpl_meaning.specs.Regions.{over_in, under_prefix}
use Rattle.zpl_meaning.specs.Outcome.{is_past}
use Rattle.zpl_meaning.specs.Variables.{with_new_scalar}
use Rattle.zpl_meaning.specs.Calls.{Handed, Called, actuals_in, entered}
use Rattle.zpl_meaning.specs.Statement.{Context, Start, head_value, is_split, exec_all}
use Rattle.zpl_meaning.specs.Program.{call_at, entry_call, first_frame}
use Rattle.zpl_meaning.specs.Visited.{body_place, first_setup}
use Rattle.meaning_runs.specs.Runner.{runner_at}
use Rattle.meaning_runs.specs.Comes.{ComesToValue, ComesInAll, ComesIn}

-- ---- prefixes

-- the place behind them, with the regions and masks that they have at the store
pub data ComesUnder (store : Store) : List Prefix → Place → Place → Type 0 where
  Bare : (place : Place) → ComesUnder store [] place place
  Behind : (prefix : Prefix) (rest : List Prefix) (place inner : Place) (over : Over) →
      over_in place store prefix ≡ Gives over →
      ComesUnder store rest (under_prefix place prefix over) inner →
      ComesUnder store (prefix ∷ rest) place inner

-- ---- statements in a statement

-- A `for` counts in a scalar, from three values that are computed once, and by a step that isn't
-- below 1.
pub record IsCounting (place : Place) (head : ForHead) (store : Store) : Type 0 where
  pub start : Start
  pub has : head_value place store head ≡ Gives start
  pub target : ℕ
  pub is_scalar : thing_of place.environment head.name.text ≡ Some (Scalar target)
  pub counts : int_lt start.count.by (pos 1) ≡ false

abbrev pub set_at : ℕ → ℤ → Store → Store
set_at target value store = with_scalar store target value

-- it comes to a value, with so many turns left
abbrev pub CountsTo : (context : Context) → ℕ → (head : ForHead) → Stmts → (store : Store) →
    IsCounting context.place head store → ℕ → ℤ → Store → Type 0
CountsTo context n head body store counting left value later =
    ComesToValue counting.start.count (set_at counting.target) (exec_all context n body) n
    counting.start.first store left value later

-- From a form at a store to a statement in it, and the store there. A shattered statement is one
-- statement, with no other in it.
pub data GoesTo (context : Context) (n : ℕ) : ℕ → Form → Store → Stmt → Store → Type 0 where
  InForm : (at : ℕ) (form : Form) (store : Store) (part : Stmt) (later : Store) →
      is_split context form ≡ false →
      ComesIn (runner_at context n) at form store part later →
      GoesTo context n at form store part later
  InFor : (at : ℕ) (head : ForHead) (body : Stmts) (store : Store) (left : ℕ) (value : ℤ)
      (turn : Store) (part : Stmt) (later : Store)
      (counting : IsCounting context.place head store) →
      CountsTo context n head body store counting (suc left) value turn →
      is_past counting.start.count value ≡ false →
      ComesInAll (runner_at context n) body (set_at counting.target value turn) part later →
      GoesTo context n at (For head body) store part later

-- ---- calls

abbrev pub call_of : Place → Name → List Handed → ℕ → Called
call_of place name handed result =
    record { name = name.text; actuals = handed; currents = place.currents; result = result }

-- what a form calls, and the store with which; one whose answer is taken has a new scalar for it
pub data MakesCall (place : Place) (store : Store) : Form → Called → Store → Type 0 where
  AsStatement : (name : Name) (actuals : Exprs) (handed : List Handed) →
      actuals_in place store name actuals ≡ Gives handed →
      MakesCall place store (Invoke name actuals) (call_of place name handed 0) store
  AsAnswer : (target name : Name) (at : ℕ) (actuals : Exprs) (handed : List Handed) →
      actuals_in place store name actuals ≡ Gives handed →
      MakesCall place store (Assign target None (Call at name actuals))
      (call_of place name handed (length store.scalars)) (with_new_scalar store (pos 0))

-- ---- the run

-- what a run begins with, and the bound on its loops
pub record Opening : Type 0 where
  pub setup : Setup
  pub store : Store
  pub bound : ℕ

abbrev pub opening_of : Program → List Setting → ℕ → Opening
opening_of program settings n = record {
  setup = first_setup program settings;
  store = (first_frame program (known_of program settings) (borders_of program)).store;
  bound = n;
}

-- at a place, where calls may go down so many procedures more
abbrev pub context_at : Opening → ℕ → Place → Context
context_at opening deeper place =
    record { place = place; call = call_at opening.setup opening.bound deeper }

-- the store in which a procedure's body begins
abbrev pub body_store : Setup → Routine → Called → Store → Store
body_store setup routine called store = (entered setup routine called.actuals store).store

-- The entry procedure's body; the statements that one comes to, behind its prefixes; and the body
-- of the procedure that one calls.
pub data IsMet (opening : Opening) : ℕ → Place → Stmt → Store → Type 0 where
  Begins : (deeper : ℕ) (routine : Routine) → longest_chain ≡ suc deeper →
      entry_of opening.setup.program ≡ Some routine →
      IsMet opening deeper
      (body_place opening.setup routine (entry_call opening.setup.program) opening.store)
      routine.procedure.body
      (body_store opening.setup routine (entry_call opening.setup.program) opening.store)
  Holds : (deeper : ℕ) (place inner : Place) (at : ℕ) (prefixes : List Prefix) (form : Form)
      (store : Store) (part : Stmt) (later : Store) →
      IsMet opening deeper place (Prefixed at prefixes form) store →
      ComesUnder store prefixes place inner →
      GoesTo (context_at opening deeper inner) opening.bound at form store part later →
      IsMet opening deeper inner part later
  Calls : (deeper : ℕ) (place inner : Place) (at : ℕ) (prefixes : List Prefix) (form : Form)
      (store : Store) (called : Called) (before : Store) (routine : Routine) →
      IsMet opening (suc deeper) place (Prefixed at prefixes form) store →
      ComesUnder store prefixes place inner → MakesCall inner store form called before →
      routine_named opening.setup.program called.name ≡ Some routine →
      IsMet opening deeper (body_place opening.setup routine called before)
      routine.procedure.body (body_store opening.setup routine called before)

-- The store at each statement that a run comes to.
use Rattle.std.proofs.Common.{◌≡◌, ℕ, suc, ℤ, pos, List, subst}
use Rattle.std.proofs.Common.{arith}
use Rattle.std.proofs.lemmas.List.{length-map}
use Rattle.zpl_meaning.specs.of_zpl_tree.Syntax.{Name, Exprs, Prefix, Program, Stmt, Prefixed, Stmts}
use Rattle.zpl_meaning.specs.of_zpl_tree.Syntax.{Form, Arms, Otherwise}
use Rattle.zpl_meaning.specs.of_zpl_names.Declared.{Routine}
use Rattle.zpl_meaning.specs.of_zpl_binding.Settings.{Setting}
use Rattle.zpl_meaning.specs.of_zpl_binding.Declarations.{known_of}
use Rattle.zpl_meaning.specs.of_zpl_binding.Storages.{borders_of}
use Rattle.zpl_meaning.specs.Computed.{Computed, Gives, Traps, computed_then}
use Rattle.zpl_meaning.specs.Store.{Store, empty_store}
use Rattle.zpl_meaning.specs.Context.{Place}
use Rattle.zpl_meaning.specs.Outcome.{Outcome, Test, Count}
use Rattle.zpl_meaning.specs.Points.{Point, at_tuple, cut}
use Rattle.zpl_meaning.specs.Phases.{scalars_in}
use Rattle.zpl_meaning.specs.Variables.{with_new_scalar, empty_frame}
use Rattle.zpl_meaning.specs.Calls.{Handed, Called, actuals_in, value_exprs, handed_on}
use Rattle.zpl_meaning.specs.Statement.{exec, exec_all}
use Rattle.zpl_meaning.specs.Program.{entry_call}
use Rattle.zpl_meaning.specs.Visited.{formals_at, body_place}
use Rattle.meaning_runs.specs.Runner.{Runner, runner_at, runner_of}
use Rattle.meaning_runs.specs.Comes.{ComesToTest, ComesToTurn, ComesToValue, ComesInAll}
use Rattle.meaning_runs.specs.Comes.{ComesInArms, ComesIn}
use Rattle.meaning_runs.specs.Comes.{ComesInAll as in_all, ComesInArms as in_arms}
use Rattle.meaning_runs.specs.Comes.{ComesIn as in_form}
use Rattle.meaning_runs.specs.Met.{ComesUnder, GoesTo, set_at, MakesCall, Opening}
use Rattle.meaning_runs.specs.Met.{opening_of, context_at, body_store, IsMet}
use Rattle.meaning_runs.specs.Tuple.{IsMetAt, IsMetBy, point_at}
use Rattle.meaning_runs.specs.Held.{HasMasks, HasPlaces}
use Rattle.meaning_runs.specs.Kept.{IsNoShorter, AlwaysKeeps}
use Rattle.meaning_runs.proofs.KeepLemmas.{same_store, and_then}
use Rattle.meaning_runs.proofs.KeepLemmas.{exec_keeps, all_keep, point_keeps, points_keep}
use Rattle.meaning_runs.proofs.KeepLemmas.{calls_keep}
use Rattle.meaning_runs.proofs.KeepLemmas.{new_scalar_keeps, with_scalar_keeps}
use Rattle.meaning_runs.proofs.HeldLemmas.{HasEach, Has, has_places, later_has, under_has}
use Rattle.meaning_runs.proofs.HeldLemmas.{HasAllHanded, handed_has, later_all_handed, later_masks}
use Rattle.meaning_runs.proofs.HeldLemmas.{later_names, body_has, declarations_above}
use Rattle.meaning_runs.proofs.HeldLemmas.{gives_same, trap_no_value}

-- ---- from a form to what it comes to

module _ (test : Test) (body : Store → Outcome) (keeps : AlwaysKeeps body) where
  pub test_longer : (n : ℕ) (store : Store) (left : ℕ) (later : Store)
      → ComesToTest test body n store left later → IsNoShorter store later
  test_longer n store left later (ComesToTest.Enters m same) = same_store store
  test_longer n store left later (ComesToTest.Again m k same after holds done comes) =
      and_then store (body store).store later (keeps store)
      (test_longer m (body store).store left later comes)

  pub turn_longer : (n : ℕ) (store : Store) (left : ℕ) (later : Store)
      → ComesToTurn test body n store left later → IsNoShorter store later
  turn_longer n store left later (ComesToTurn.Enters m same) = same_store store
  turn_longer n store left later (ComesToTurn.Again m k same after done holds comes) =
      and_then store (body store).store later (keeps store)
      (turn_longer m (body store).store left later comes)

module _ (count : Count) (target : ℕ) (body : Store → Outcome) (keeps : AlwaysKeeps body) where
  pub value_longer : (n : ℕ) (value : ℤ) (store : Store) (left : ℕ) (reached : ℤ) (later : Store)
      → ComesToValue count (set_at target) body n value store left reached later
      → IsNoShorter store later
  value_longer n value store left reached later (ComesToValue.Enters m from same) =
      same_store store
  value_longer n value store left reached later
      (ComesToValue.Again m k from to same after past done comes) =
      let set = set_at target from same in
      let next = (body set).store in
      and_then same set after (with_scalar_keeps same target from)
      (and_then set next after (keeps set) (value_longer m _ next k to after comes))

module _ (runner : Runner) (one : (stmt : Stmt) → AlwaysKeeps (runner.one stmt))
    (all : (stmts : Stmts) → AlwaysKeeps (runner.all stmts)) where
  all_longer : (stmts : Stmts) (store : Store) (part : Stmt) (later : Store)
      → ComesInAll runner stmts store part later → IsNoShorter store later
  all_longer stmts store part later (in_all.First first rest same) = same_store store
  all_longer stmts store part later (in_all.Later first next rest same after done comes) =
      let then_store = (runner.one first same).store in
      and_then same then_store after (one first same)
      (all_longer rest then_store next after comes)

  arms_longer : (at : ℕ) (arms : Arms) (otherwise : Otherwise) (store : Store) (part : Stmt)
      (later : Store) → ComesInArms runner at arms otherwise store part later
      → IsNoShorter store later
  arms_longer at arms otherwise store part later
      (in_arms.InFirst offset own test body rest last same next after holds comes) =
      all_longer body same next after comes
  arms_longer at arms otherwise store part later
      (in_arms.InRest offset own test body rest last same next after holds comes) =
      arms_longer _ rest last same next after comes
  arms_longer at arms otherwise store part later
      (in_arms.InElse offset body same next after comes) =
      all_longer body same next after comes

  form_longer : (at : ℕ) (form : Form) (store : Store) (part : Stmt) (later : Store)
      → ComesIn runner at form store part later → IsNoShorter store later
  form_longer at form store part later (in_form.InBlock offset body same next after comes) =
      all_longer body same next after comes
  form_longer at form store part later
      (in_form.InChoice offset arms otherwise same next after comes) =
      arms_longer offset arms otherwise same next after comes
  form_longer at form store part later
      (in_form.InWhile offset test body same left turn next after to holds comes) =
      and_then same turn after
      (test_longer (runner.test test offset) (runner.all body) (all body) runner.bound same
      (suc left) turn to)
      (all_longer body turn next after comes)
  form_longer at form store part later
      (in_form.InRepeat offset body until test same left turn next after to comes) =
      and_then same turn after
      (turn_longer (runner.test test until) (runner.all body) (all body) runner.bound same
      (suc left) turn to)
      (all_longer body turn next after comes)

-- ---- the run

module _ (opening : Opening) where
  one_keeps : (deeper : ℕ) (place : Place) (stmt : Stmt)
      → AlwaysKeeps (exec (context_at opening deeper place) opening.bound stmt)
  one_keeps deeper place stmt =
      exec_keeps opening.bound _ (calls_keep opening.setup opening.bound deeper) stmt place

  all_keeps : (deeper : ℕ) (place : Place) (stmts : Stmts)
      → AlwaysKeeps (exec_all (context_at opening deeper place) opening.bound stmts)
  all_keeps deeper place stmts =
      all_keep opening.bound _ (calls_keep opening.setup opening.bound deeper) stmts place

  pub goes_longer : (deeper : ℕ) (place : Place) (at : ℕ) (form : Form) (store : Store)
      (part : Stmt) (later : Store)
      → GoesTo (context_at opening deeper place) opening.bound at form store part later
      → IsNoShorter store later
  goes_longer deeper place at form store part later
      (GoesTo.InForm offset from same next after whole comes) =
      form_longer (runner_at (context_at opening deeper place) opening.bound)
      (one_keeps deeper place) (all_keeps deeper place) offset from same next after comes
  goes_longer deeper place at form store part later
      (GoesTo.InFor offset head body from left value turn next after counting to past comes) =
      let set = set_at counting.target value turn in
      and_then from turn after
      (value_longer counting.start.count counting.target
      (exec_all (context_at opening deeper place) opening.bound body)
      (all_keeps deeper place body) opening.bound counting.start.first from (suc left) value turn
      to)
      (and_then turn set after (with_scalar_keeps turn counting.target value)
      (all_longer (runner_at (context_at opening deeper place) opening.bound)
      (one_keeps deeper place) (all_keeps deeper place) body set next after comes))

-- what a call hands on is there
pub actuals_have : (place : Place) (store : Store) (name : Name) (actuals : Exprs)
    (handed : List Handed) → actuals_in place store name actuals ≡ Gives handed
    → HasEach store place.environment.names → HasAllHanded store handed
actuals_have place store name actuals handed e has =
    by (scalars_in place store (value_exprs place (formals_at place name) actuals)) e
  where
    by : (computed : Computed (List ℤ))
        → computed_then computed (λ values.
        Gives (handed_on place.environment store (formals_at place name) actuals values))
        ≡ Gives handed
        → HasAllHanded store handed
    by (Gives values) e =
        subst (HasAllHanded store) (gives_same _ handed e)
        (handed_has store place.environment (formals_at place name) actuals values has)
    by (Traps kind) e = trap_no_value kind handed e

record IsCallHeld (store : Store) (place : Place) (called : Called) (before : Store) : Type 0 where
  longer : IsNoShorter store before
  handed : HasAllHanded before called.actuals
  currents : HasMasks before called.currents

call_held : (place : Place) (store : Store) (form : Form) (called : Called) (before : Store)
    → MakesCall place store form called before → HasEach store place.environment.names
    → HasMasks store place.currents → IsCallHeld store place called before
call_held place store form called before (MakesCall.AsStatement name actuals handed has) names
    masks =
    record {
      longer = same_store store;
      handed = actuals_have place store name actuals handed has names;
      currents = masks;
    }
call_held place store form called before (MakesCall.AsAnswer target name offset actuals handed has)
    names masks =
    let longer = new_scalar_keeps store (pos 0) in record {
      longer = longer;
      handed = later_all_handed handed store (with_new_scalar store (pos 0)) longer
          (actuals_have place store name actuals handed has names);
      currents = later_masks place.currents store (with_new_scalar store (pos 0)) longer masks;
    }

module _ (opening : Opening) (first : HasEach opening.store opening.setup.globals) where
  called_has : (place : Place) (store : Store) (form : Form) (called : Called) (before : Store)
      (routine : Routine) → Has store opening.setup.globals place
      → MakesCall place store form called before
      → Has (body_store opening.setup routine called before) opening.setup.globals
      (body_place opening.setup routine called before)
  called_has place store form called before routine has makes =
      let held = call_held place store form called before makes has.names has.masks in
      body_has opening.setup routine called before held.handed held.currents
      (later_names opening.setup.globals store before held.longer has.globals_there)

  pub met_has : (deeper : ℕ) (place : Place) (stmt : Stmt) (store : Store)
      → IsMet opening deeper place stmt store → Has store opening.setup.globals place
  met_has deeper place stmt store (IsMet.Begins less routine chain named) =
      body_has opening.setup routine (entry_call opening.setup.program) opening.store tt
      (record { one = tt; two = tt; three = tt }) first
  met_has deeper place stmt store
      (IsMet.Holds less outer inner at prefixes form from part later met comes goes) =
      later_has from later opening.setup.globals inner
      (goes_longer opening less inner at form from part later goes)
      (under_has from opening.setup.globals prefixes outer inner comes
      (met_has less outer (Prefixed at prefixes form) from met))
  met_has deeper place stmt store
      (IsMet.Calls less outer inner at prefixes form from called before routine met comes makes
      named) =
      called_has inner from form called before routine
      (under_has from opening.setup.globals prefixes outer inner comes
      (met_has (suc less) outer (Prefixed at prefixes form) from met)) makes

-- ---- a program's run

globals_first : (program : Program) (settings : List Setting) (n : ℕ)
    → HasEach (opening_of program settings n).store (opening_of program settings n).setup.globals
globals_first program settings n =
    (declarations_above (known_of program settings) (borders_of program) empty_store program.decls
    empty_frame (record { names = tt; longer = same_store empty_store })).names

module _ (program : Program) (settings : List Setting) (n : ℕ) where
  abbrev start : Opening
  start = opening_of program settings n

  pub places_there : (deeper : ℕ) (place : Place) (stmt : Stmt) (store : Store)
      → IsMet start deeper place stmt store → HasPlaces store place
  places_there deeper place stmt store met =
      has_places store start.setup.globals place
      (met_has start (globals_first program settings n) deeper place stmt store met)

  pub inner_has : (deeper : ℕ) (place inner : Place) (at : ℕ) (prefixes : List Prefix) (form : Form)
      (store : Store) → IsMet start deeper place (Prefixed at prefixes form) store
      → ComesUnder store prefixes place inner → Has store start.setup.globals inner
  inner_has deeper place inner at prefixes form store met comes =
      under_has store start.setup.globals prefixes place inner comes
      (met_has start (globals_first program settings n) deeper place (Prefixed at prefixes form)
      store met)

  pub inner_there : (deeper : ℕ) (place inner : Place) (at : ℕ) (prefixes : List Prefix)
      (form : Form) (store : Store) → IsMet start deeper place (Prefixed at prefixes form) store
      → ComesUnder store prefixes place inner → HasPlaces store inner
  inner_there deeper place inner at prefixes form store met comes =
      has_places store start.setup.globals inner
      (inner_has deeper place inner at prefixes form store met comes)

-- ---- the tuples of a shattered statement

module _ (point : Point) (n : ℕ) (whole : Form) (first : Store) where
  point_longer : (form : Form) (store : Store) → IsMetAt point n whole first form store
      → IsNoShorter first store
  point_longer form store IsMetAt.Whole = same_store store
  point_longer form store (IsMetAt.Within outer earlier at prefixes part later met comes) =
      and_then first earlier later (point_longer outer earlier met)
      (form_longer (runner_of point n) (point_keeps point n) (points_keep point n) 0 outer earlier
      (Prefixed at prefixes part) later comes)

tuple_longer : (tuple : List ℤ) (store : Store) → IsNoShorter store (at_tuple tuple store)
tuple_longer tuple store = record {
  scalars = omega arith;
  arrays = omega (arith, length-map store.arrays (cut tuple));
}

module _ (program : Program) (settings : List Setting) (n : ℕ) where
  pub tuples_there : (deeper : ℕ) (place inner : Place) (at : ℕ) (prefixes : List Prefix)
      (form : Form) (store : Store)
      → IsMet (opening_of program settings n) deeper place (Prefixed at prefixes form) store
      → ComesUnder store prefixes place inner
      → (line : ℕ) (tuple : List ℤ) (part : Form) (later : Store)
      → IsMetBy inner line n form store tuple part later → HasPlaces later inner
  tuples_there deeper place inner at prefixes form store met comes line tuple part later by =
      let globals = (opening_of program settings n).setup.globals in
      let first = at_tuple tuple store in
      has_places later globals inner
      (later_has store later globals inner
      (and_then store first later (tuple_longer tuple store)
      (point_longer (point_at inner line form tuple) n form first part later by))
      (inner_has program settings n deeper place inner at prefixes form store met comes))

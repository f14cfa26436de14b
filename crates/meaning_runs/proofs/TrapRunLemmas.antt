-- A run ends with a trap exactly where a statement that it comes to traps by itself: the run.
use Rattle.std.proofs.Common.{◌≡◌, ℕ, zero, suc, Bool, true, false, ◌⊎◌, inl, inr, pos, List, []}
use Rattle.std.proofs.Common.{◌∷◌, length, Option, Some, None, refl, ap, ◌∙◌, subst}
use Rattle.std.specs.Prelude.{◌↔◌, int_lt}
use Rattle.zpl_nums.specs.declared.ends.End.TheVariants.{Trap}
use Rattle.zpl_nums.specs.declared.ends.TrapKind.{TrapKind}
use Rattle.zpl_meaning.specs.of_zpl_tree.Syntax.{Name, Exprs, ForHead, Prefix, Program, Stmt, Prefixed}
use Rattle.zpl_meaning.specs.of_zpl_tree.Syntax.{Stmts, Form, If, While}
use Rattle.zpl_meaning.specs.of_zpl_tree.Syntax.{Repeat, For, Arms}
use Rattle.zpl_meaning.specs.of_zpl_tree.Syntax.{Otherwise}
use Rattle.zpl_meaning.proofs.of_zpl_names.ListLemmas.{Among}
use Rattle.zpl_meaning.specs.of_zpl_names.Declared.{Routine, routine_named}
use Rattle.zpl_meaning.specs.of_zpl_names.Reached.{longest_chain}
use Rattle.zpl_meaning.specs.of_zpl_binding.Settings.{Setting}
use Rattle.zpl_meaning.specs.Computed.{Traps}
use Rattle.zpl_meaning.specs.Store.{Store, thing_of, scalar_at, cut_back}
use Rattle.zpl_meaning.specs.Context.{Setup, Place}
use Rattle.zpl_meaning.specs.Regions.{over_in, under_prefix}
use Rattle.zpl_nums.specs.Integer.{is_true}
use Rattle.zpl_meaning.specs.Outcome.{Outcome, goes_on, wants_more, choose, then_do, Test, tested}
use Rattle.zpl_meaning.specs.Outcome.{next_value, for_turns}
use Rattle.zpl_meaning.specs.Outcome.{while_turns, repeat_turns}
use Rattle.zpl_meaning.specs.Points.{shattered}
use Rattle.zpl_meaning.specs.Variables.{with_new_scalar}
use Rattle.zpl_meaning.specs.Calls.{Called, Handed, actuals_in}
use Rattle.zpl_meaning.specs.Statement.{Context, line_of, exec, exec_all, exec_form, exec_arms}
use Rattle.zpl_meaning.specs.Statement.{exec_otherwise, under, head_value, for_from, is_split}
use Rattle.zpl_meaning.specs.Statement.{test_of, arms_at, with_result}
use Rattle.zpl_meaning.specs.Program.{call_at, run_routine, entry_call, mean_of}
use Rattle.zpl_meaning.specs.Visited.{parts_of, body_place, IsCall}
use Rattle.meaning_runs.specs.Runner.{runner_at}
use Rattle.meaning_runs.specs.Comes.{ComesInAll, ComesInArms, ComesIn}
use Rattle.meaning_runs.specs.Met.{ComesUnder, IsCounting, set_at, GoesTo, call_of, MakesCall}
use Rattle.meaning_runs.specs.Met.{Opening, opening_of, context_at, body_store, IsMet}
use Rattle.meaning_runs.specs.Traps.{ArmTraps, TestTraps, TrapsAt, PrefixTraps, StmtTraps}
use Rattle.meaning_runs.specs.Traps.{SomeStatementTraps}
use Rattle.meaning_runs.proofs.PartLemmas.{by_parts, goes_among}
use Rattle.meaning_runs.proofs.TupleLemmas.{value_goes}
use Rattle.meaning_runs.proofs.EndLemmas.{done_no_trap, then_goes, tested_goes, while_same}
use Rattle.meaning_runs.proofs.EndLemmas.{repeat_same, for_turn, for_same, Ends, then_stays}
use Rattle.meaning_runs.proofs.EndLemmas.{value_stops, Stops, GoesOn, value_traps}
use Rattle.meaning_runs.proofs.StopLemmas.{form_traps}
use Rattle.meaning_runs.proofs.RunLemmas.{IsCallMet, met_call, entered_run}

choose_false : (whole : Bool) (one other : Store → Outcome) (store : Store) → whole ≡ false
    → (choose whole one other store).ending ≡ (other store).ending
choose_false whole one other store is = ap (λ b. (choose b one other store).ending) is

-- a loop whose test traps
while_stops : (kind : TrapKind) (left : ℕ) (test : Test) (body : Store → Outcome) (store : Store)
    → test.value store ≡ Traps kind → Ends kind test.line (while_turns left test body store)
while_stops kind zero test body store is =
    value_stops kind test.line (test.value store) store test.line
    (λ value. choose (is_true value) wants_more goes_on store) is refl
while_stops kind (suc left) test body store is =
    value_stops kind test.line (test.value store) store test.line
    (λ value. choose (is_true value) (λ s. then_do (body s) (while_turns left test body)) goes_on
    store) is refl

module _ (context : Context) (n : ℕ) where
  abbrev one : Stmt → Store → Outcome
  one = exec context n

  abbrev all : Stmts → Store → Outcome
  all = exec_all context n

  abbrev split_run : ℕ → Form → Store → Outcome
  split_run at form = shattered context.place (line_of context.place at) n form

  -- ---- a test that traps

  arm_ends : (last : Store → Outcome) (at : ℕ) (arms : Arms) (store : Store) (kind : TrapKind)
      (line : ℕ) → ArmTraps (runner_at context n) at arms store kind line
      → Ends kind line (exec_arms context n at arms last store)
  arm_ends last at arms store kind line
      (ArmTraps.ThisArm offset own test body rest same trap is) =
      let condition : Test = test_of context.place test offset in
      value_stops trap condition.line (condition.value same) same condition.line
      (λ value. choose (is_true value) (all body) (exec_arms context n (arms_at rest) rest last)
      same) is refl
  arm_ends last at arms store kind line
      (ArmTraps.LaterArm offset own test body rest same trap where_at holds later) =
      tested_goes (test_of context.place test offset) (all body)
      (exec_arms context n (arms_at rest) rest last) same false holds
      ∙ arm_ends last (arms_at rest) rest same trap where_at later

  test_ends : (at : ℕ) (form : Form) (store : Store) (kind : TrapKind) (line : ℕ)
      → TestTraps (runner_at context n) at form store kind line
      → is_split context form ≡ false → Ends kind line (exec_form context n at form store)
  test_ends at form store kind line
      (TestTraps.OfArm offset arms otherwise same trap where_at arm) whole =
      choose_false (is_split context (If arms otherwise)) (split_run offset (If arms otherwise))
      (exec_arms context n offset arms (exec_otherwise context n otherwise)) same whole
      ∙ arm_ends (exec_otherwise context n otherwise) offset arms same trap where_at arm
  test_ends at form store kind line
      (TestTraps.OfWhile offset test body same left last trap comes is) whole =
      let condition : Test = test_of context.place test offset in
      choose_false (is_split context (While test body)) (split_run offset (While test body))
      (while_turns n condition (all body)) same whole
      ∙ (while_same condition (all body) n same left last comes
      ∙ while_stops trap left condition (all body) last is)
  test_ends at form store kind line
      (TestTraps.OfRepeat offset body until test same left turn trap comes done is) whole =
      let condition : Test = test_of context.place test until in
      let behind : Store = (all body turn).store in
      choose_false (is_split context (Repeat body until test))
      (split_run offset (Repeat body until test)) (repeat_turns n condition (all body)) same whole
      ∙ (repeat_same condition (all body) n same (suc left) turn comes
      ∙ (then_goes (all body turn)
      (tested condition goes_on (repeat_turns left condition (all body))) done
      ∙ value_stops trap condition.line (condition.value behind) behind condition.line
      (λ value. choose (is_true value) goes_on (repeat_turns left condition (all body)) behind) is
      refl))

  -- ---- a statement in one that traps

  all_ends : (kind : TrapKind) (line : ℕ) (stmts : Stmts) (store : Store) (part : Stmt)
      (later : Store) → ComesInAll (runner_at context n) stmts store part later
      → Ends kind line (one part later) → Ends kind line (all stmts store)
  all_ends kind line stmts store part later (ComesInAll.First first rest same) e =
      then_stays kind line (one first same) (all rest) e
  all_ends kind line stmts store part later
      (ComesInAll.Later first next rest same after done comes) e =
      then_goes (one first same) (all rest) done
      ∙ all_ends kind line rest (one first same).store next after comes e

  arms_end : (kind : TrapKind) (line : ℕ) (at : ℕ) (arms : Arms) (otherwise : Otherwise)
      (store : Store) (part : Stmt) (later : Store)
      → ComesInArms (runner_at context n) at arms otherwise store part later
      → Ends kind line (one part later)
      → Ends kind line (exec_arms context n at arms (exec_otherwise context n otherwise) store)
  arms_end kind line at arms otherwise store part later
      (ComesInArms.InFirst offset own test body rest last same next after holds comes) e =
      tested_goes (test_of context.place test offset) (all body)
      (exec_arms context n (arms_at rest) rest (exec_otherwise context n last)) same true holds
      ∙ all_ends kind line body same next after comes e
  arms_end kind line at arms otherwise store part later
      (ComesInArms.InRest offset own test body rest last same next after holds comes) e =
      tested_goes (test_of context.place test offset) (all body)
      (exec_arms context n (arms_at rest) rest (exec_otherwise context n last)) same false holds
      ∙ arms_end kind line (arms_at rest) rest last same next after comes e
  arms_end kind line at arms otherwise store part later
      (ComesInArms.InElse offset body same next after comes) e =
      all_ends kind line body same next after comes e

  comes_end : (kind : TrapKind) (line : ℕ) (at : ℕ) (form : Form) (store : Store) (part : Stmt)
      (later : Store) → ComesIn (runner_at context n) at form store part later
      → is_split context form ≡ false → Ends kind line (one part later)
      → Ends kind line (exec_form context n at form store)
  comes_end kind line at form store part later
      (ComesIn.InBlock offset body same next after comes) whole e =
      all_ends kind line body same next after comes e
  comes_end kind line at form store part later
      (ComesIn.InChoice offset arms otherwise same next after comes) whole e =
      choose_false (is_split context (If arms otherwise)) (split_run offset (If arms otherwise))
      (exec_arms context n offset arms (exec_otherwise context n otherwise)) same whole
      ∙ arms_end kind line offset arms otherwise same next after comes e
  comes_end kind line at form store part later
      (ComesIn.InWhile offset test body same left turn next after to holds comes) whole e =
      let condition : Test = test_of context.place test offset in
      choose_false (is_split context (While test body)) (split_run offset (While test body))
      (while_turns n condition (all body)) same whole
      ∙ (while_same condition (all body) n same (suc left) turn to
      ∙ (tested_goes condition (λ s. then_do (all body s) (while_turns left condition (all body)))
      goes_on turn true holds
      ∙ then_stays kind line (all body turn) (while_turns left condition (all body))
      (all_ends kind line body turn next after comes e)))
  comes_end kind line at form store part later
      (ComesIn.InRepeat offset body until test same left turn next after to comes) whole e =
      let condition : Test = test_of context.place test until in
      choose_false (is_split context (Repeat body until test))
      (split_run offset (Repeat body until test)) (repeat_turns n condition (all body)) same whole
      ∙ (repeat_same condition (all body) n same (suc left) turn to
      ∙ then_stays kind line (all body turn)
      (tested condition goes_on (repeat_turns left condition (all body)))
      (all_ends kind line body turn next after comes e))

  -- a `for` does what its turns do
  for_is : (at : ℕ) (head : ForHead) (body : Stmts) (store : Store)
      (counting : IsCounting context.place head store)
      → (exec_form context n at (For head body) store).ending
      ≡ (for_turns n counting.start.count (set_at counting.target) (all body) counting.start.first
      store).ending
  for_is at head body store counting =
      value_goes (head_value context.place store head) store (line_of context.place at)
      (λ start. for_from n (thing_of context.place.environment head.name.text) start (all body)
      store)
      counting.start counting.has
      ∙ (ap (λ thing. (for_from n thing counting.start (all body) store).ending) counting.is_scalar
      ∙ choose_false (int_lt counting.start.count.by (pos 1)) goes_on
      (for_turns n counting.start.count (set_at counting.target) (all body) counting.start.first)
      store counting.counts)

  pub goes_end : (kind : TrapKind) (line : ℕ) (at : ℕ) (form : Form) (store : Store) (part : Stmt)
      (later : Store) → GoesTo context n at form store part later
      → Ends kind line (one part later) → Ends kind line (exec_form context n at form store)
  goes_end kind line at form store part later
      (GoesTo.InForm offset from same next after whole comes) e =
      comes_end kind line offset from same next after comes whole e
  goes_end kind line at form store part later
      (GoesTo.InFor offset head body from left value turn next after counting to past comes) e =
      let count = counting.start.count in
      let set = set_at counting.target in
      for_is offset head body from counting
      ∙ (for_same count set (all body) n counting.start.first from (suc left) value turn to
      ∙ (for_turn count set (all body) left value turn past
      ∙ then_stays kind line (all body (set value turn))
      (for_turns left count set (all body) (next_value count value))
      (all_ends kind line body (set value turn) next after comes e)))

  pub traps_end : (at : ℕ) (form : Form) (store : Store) (kind : TrapKind) (line : ℕ)
      → TrapsAt context n at form store kind line
      → Ends kind line (exec_form context n at form store)
  traps_end at form store kind line (TrapsAt.Alone offset same from trap where_at alone e) = e
  traps_end at form store kind line (TrapsAt.ATest offset same from trap where_at whole test) =
      test_ends offset same from trap where_at test whole
  traps_end at form store kind line (TrapsAt.Head offset head body from trap is) =
      value_stops trap (line_of context.place offset) (head_value context.place from head) from
      (line_of context.place offset)
      (λ start. for_from n (thing_of context.place.environment head.name.text) start (all body)
      from)
      is refl
  traps_end at form store kind line (TrapsAt.Actuals offset same name actuals from trap call is) =
      called offset same name actuals from trap call is
    where
      called : (at : ℕ) (form : Form) (name : Name) (actuals : Exprs) (store : Store)
          (kind : TrapKind) → IsCall form name actuals
          → actuals_in context.place store name actuals ≡ Traps kind
          → Ends kind (line_of context.place at) (exec_form context n at form store)
      called at form name actuals store kind
          (IsCall.AsStatement {name = same} {actuals = given}) is =
          value_stops kind (line_of context.place at) (actuals_in context.place store same given)
          store (line_of context.place at)
          (λ handed. context.call (call_of context.place same handed 0) store) is refl
      called at form name actuals store kind
          (IsCall.AsAnswer {target = target} {name = same} {actuals = given}) is =
          value_stops kind (line_of context.place at) (actuals_in context.place store same given)
          store (line_of context.place at)
          (λ handed. then_do (context.call
          (call_of context.place same handed (length store.scalars))
          (with_new_scalar store (pos 0))) (λ after.
          goes_on
          (with_result (thing_of context.place.environment target.text)
          (scalar_at after (length store.scalars)) (cut_back store after)))) is refl

  pub call_ends : (kind : TrapKind) (line : ℕ) (at : ℕ) (form : Form) (store : Store)
      (called : Called) (before : Store) → MakesCall context.place store form called before
      → Ends kind line (context.call called before)
      → Ends kind line (exec_form context n at form store)
  call_ends kind line at form store called before
      (MakesCall.AsStatement name actuals handed has) e =
      value_goes (actuals_in context.place store name actuals) store (line_of context.place at)
      (λ given. context.call (call_of context.place name given 0) store) handed has ∙ e
  call_ends kind line at form store called before
      (MakesCall.AsAnswer target name offset actuals handed has) e =
      let rest : Store → Outcome = λ after.
      goes_on
      (with_result (thing_of context.place.environment target.text)
      (scalar_at after (length store.scalars)) (cut_back store after)) in
      let call : List Handed → Outcome = λ given. context.call
      (call_of context.place name given (length store.scalars)) (with_new_scalar store (pos 0)) in
      value_goes (actuals_in context.place store name actuals) store (line_of context.place at)
      (λ given. then_do (call given) rest) handed has
      ∙ then_stays kind line (call handed) rest e

-- ---- the run

module _ (kind : TrapKind) (line : ℕ) (opening : Opening) where
  abbrev setup : Setup
  setup = opening.setup

  abbrev ctx : ℕ → Place → Context
  ctx = context_at opening

  abbrev Trapped : Outcome → Type 0
  Trapped outcome = Ends kind line outcome

  -- ---- forth

  under_traps : (Goal : Type 0) (deeper : ℕ) (prefixes : List Prefix) (place : Place)
      (store : Store) (next : Context → Outcome)
      → Trapped (under (ctx deeper place) prefixes store next)
      → (PrefixTraps store prefixes place kind line → Goal)
      → ((inner : Place) → ComesUnder store prefixes place inner
      → Trapped (next (ctx deeper inner)) → Goal)
      → Goal
  under_traps Goal deeper [] place store next e stops found = found place (ComesUnder.Bare place) e
  under_traps Goal deeper (prefix ∷ rest) place store next e stops found =
      by (value_traps kind line (over_in place store prefix) store (line_of place prefix.at)
      (λ over. under (ctx deeper (under_prefix place prefix over)) rest store next) e)
      (λ within. under_traps Goal deeper rest within store next)
    where
      by : Stops kind line (over_in place store prefix) (line_of place prefix.at)
          ⊎ GoesOn kind line (over_in place store prefix)
          (λ over. under (ctx deeper (under_prefix place prefix over)) rest store next)
          → ((within : Place) → Trapped (under (ctx deeper within) rest store next)
          → (PrefixTraps store rest within kind line → Goal)
          → ((inner : Place) → ComesUnder store rest within inner
          → Trapped (next (ctx deeper inner)) → Goal)
          → Goal)
          → Goal
      by (inl trap) further =
          stops (subst (λ (l : ℕ). PrefixTraps store (prefix ∷ rest) place kind l) trap.same
          (PrefixTraps.ThisPrefix prefix rest place kind trap.is))
      by (inr goes) further =
          further (under_prefix place prefix goes.value) goes.ends
          (λ trap. stops
          (PrefixTraps.LaterPrefix prefix rest place goes.value kind line goes.is trap))
          (λ inner comes. found inner
          (ComesUnder.Behind prefix rest place inner goes.value goes.is comes))

  abbrev CallsStop : ℕ → Type 0
  CallsStop deeper =
      (called : Called) (before : Store) → IsCallMet opening deeper called before
      → Trapped (call_at setup opening.bound deeper called before)
      → SomeStatementTraps opening kind line

  abbrev StmtStops : ℕ → Stmt → Type 0
  StmtStops deeper stmt =
      (place : Place) (store : Store) → IsMet opening deeper place stmt store
      → Trapped (exec (ctx deeper place) opening.bound stmt store)
      → SomeStatementTraps opening kind line

  at_stmt : (deeper : ℕ) (place : Place) (stmt : Stmt) (store : Store)
      → IsMet opening deeper place stmt store → StmtTraps opening deeper place stmt store kind line
      → SomeStatementTraps opening kind line
  at_stmt deeper place stmt store met traps = record {
    deeper = deeper;
    place = place;
    stmt = stmt;
    store = store;
    met = met;
    traps = traps;
  }

  stmt_step : (deeper : ℕ) → CallsStop deeper → (at : ℕ) (prefixes : List Prefix) (form : Form)
      → ((part : Stmt) → Among (parts_of form) part → StmtStops deeper part)
      → StmtStops deeper (Prefixed at prefixes form)
  stmt_step deeper calls at prefixes form parts place store met e =
      let goal = SomeStatementTraps opening kind line in
      let stmt : Stmt = Prefixed at prefixes form in
      under_traps goal deeper prefixes place store
      (λ inner. exec_form inner opening.bound at form store) e
      (λ trap. at_stmt deeper place stmt store met
      (StmtTraps.InPrefixes at prefixes form store kind line trap))
      (λ inner comes trapped.
      form_traps kind line (ctx deeper inner) opening.bound goal at form store trapped
      (λ trap. at_stmt deeper place stmt store met
      (StmtTraps.BehindThem inner at prefixes form store kind line comes trap))
      (λ part later goes. parts part
      (goes_among (ctx deeper inner) opening.bound at form store part later goes) inner later
      (IsMet.Holds deeper place inner at prefixes form store part later met comes goes))
      (λ called before makes. calls called before
      (met_call opening deeper place inner at prefixes form store called before met comes makes)))

  stmt_stops : (deeper : ℕ) → CallsStop deeper → (stmt : Stmt) → StmtStops deeper stmt
  stmt_stops deeper calls stmt = by_parts (StmtStops deeper) (stmt_step deeper calls) stmt

  calls_stop : (deeper : ℕ) → CallsStop deeper
  calls_stop zero called before met e = done_no_trap kind line e
  calls_stop (suc less) called before met e =
      by (routine_named setup.program called.name) refl e (calls_stop less)
    where
      by : (found : Option Routine) → routine_named setup.program called.name ≡ found
          → Trapped (run_routine setup opening.bound (call_at setup opening.bound less) found called
          before)
          → CallsStop less → SomeStatementTraps opening kind line
      by None is e calls = done_no_trap kind line e
      by (Some routine) is e calls =
          stmt_stops less calls routine.procedure.body (body_place setup routine called before)
          (body_store setup routine called before) (met less routine refl is) e

  pub trap_found : Trapped (entered_run opening) → SomeStatementTraps opening kind line
  trap_found e =
      calls_stop longest_chain (entry_call setup.program) opening.store
      (λ less routine is named. IsMet.Begins less routine is named) e

  -- ---- back

  under_ends : (deeper : ℕ) (store : Store) (next : Context → Outcome) (prefixes : List Prefix)
      (place inner : Place) → ComesUnder store prefixes place inner
      → Trapped (next (ctx deeper inner)) → Trapped (under (ctx deeper place) prefixes store next)
  under_ends deeper store next prefixes place inner (ComesUnder.Bare same) e = e
  under_ends deeper store next prefixes place inner
      (ComesUnder.Behind prefix rest outer last over is comes) e =
      value_goes (over_in outer store prefix) store (line_of outer prefix.at)
      (λ given. under (ctx deeper (under_prefix outer prefix given)) rest store next) over is
      ∙ under_ends deeper store next rest (under_prefix outer prefix over) last comes e

  routine_ends : (deeper : ℕ) (called : Called) (before : Store) (routine : Routine)
      → routine_named setup.program called.name ≡ Some routine
      → Trapped (exec (ctx deeper (body_place setup routine called before)) opening.bound
      routine.procedure.body (body_store setup routine called before))
      → Trapped (call_at setup opening.bound (suc deeper) called before)
  routine_ends deeper called before routine named e =
      ap (λ found. (run_routine setup opening.bound (call_at setup opening.bound deeper) found
      called before).ending) named ∙ e

  met_ends : (deeper : ℕ) (place : Place) (stmt : Stmt) (store : Store)
      → IsMet opening deeper place stmt store
      → Trapped (exec (ctx deeper place) opening.bound stmt store) → Trapped (entered_run opening)
  met_ends deeper place stmt store (IsMet.Begins less routine chain named) e =
      ap (λ (d : ℕ). (call_at setup opening.bound d (entry_call setup.program)
      opening.store).ending) chain
      ∙ routine_ends less (entry_call setup.program) opening.store routine named e
  met_ends deeper place stmt store
      (IsMet.Holds less outer inner at prefixes form from part later met comes goes) e =
      met_ends less outer (Prefixed at prefixes form) from met
      (under_ends less from (λ context. exec_form context opening.bound at form from) prefixes
      outer inner comes
      (goes_end (ctx less inner) opening.bound kind line at form from part later goes e))
  met_ends deeper place stmt store
      (IsMet.Calls less outer inner at prefixes form from called before routine met comes makes
      named) e =
      met_ends (suc less) outer (Prefixed at prefixes form) from met
      (under_ends (suc less) from (λ context. exec_form context opening.bound at form from)
      prefixes outer inner comes
      (call_ends (ctx (suc less) inner) opening.bound kind line at form from called before makes
      (routine_ends less called before routine named e)))

prefix_ends : (opening : Opening) (deeper : ℕ) (store : Store) (next : Context → Outcome)
    (prefixes : List Prefix) (place : Place) (kind : TrapKind) (line : ℕ)
    → PrefixTraps store prefixes place kind line
    → Ends kind line (under (context_at opening deeper place) prefixes store next)
prefix_ends opening deeper store next prefixes place kind line
    (PrefixTraps.ThisPrefix prefix rest outer trap is) =
    value_stops trap (line_of outer prefix.at) (over_in outer store prefix) store
    (line_of outer prefix.at)
    (λ given. under (context_at opening deeper (under_prefix outer prefix given)) rest store next)
    is refl
prefix_ends opening deeper store next prefixes place kind line
    (PrefixTraps.LaterPrefix prefix rest outer over trap where_at is later) =
    value_goes (over_in outer store prefix) store (line_of outer prefix.at)
    (λ given. under (context_at opening deeper (under_prefix outer prefix given)) rest store next)
    over is
    ∙ prefix_ends opening deeper store next rest (under_prefix outer prefix over) trap where_at
    later

stmt_ends : (opening : Opening) (deeper : ℕ) (place : Place) (stmt : Stmt) (store : Store)
    (kind : TrapKind) (line : ℕ) → StmtTraps opening deeper place stmt store kind line
    → Ends kind line (exec (context_at opening deeper place) opening.bound stmt store)
stmt_ends opening deeper place stmt store kind line
    (StmtTraps.InPrefixes at prefixes form same trap where_at prefix) =
    prefix_ends opening deeper same (λ context. exec_form context opening.bound at form same)
    prefixes place trap where_at prefix
stmt_ends opening deeper place stmt store kind line
    (StmtTraps.BehindThem inner at prefixes form same trap where_at comes traps) =
    under_ends trap where_at opening deeper same
    (λ context. exec_form context opening.bound at form same) prefixes place inner comes
    (traps_end (context_at opening deeper inner) opening.bound at form same trap where_at traps)

pub trap_exact : (program : Program) (settings : List Setting) (n : ℕ) (kind : TrapKind) (line : ℕ)
    → ((mean_of program settings n).ending ≡ Trap kind line)
    ↔ SomeStatementTraps (opening_of program settings n) kind line
trap_exact program settings n kind line =
    let opening = opening_of program settings n in (
      trap_found kind line opening,
      λ some. met_ends kind line opening some.deeper some.place some.stmt some.store some.met
          (stmt_ends opening some.deeper some.place some.stmt some.store kind line some.traps),
    )

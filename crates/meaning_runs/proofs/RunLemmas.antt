-- A run wants more exactly where it comes to a loop that wants a turn which it may not make.
use Rattle.std.proofs.Common.{◌≡◌, ℕ, zero, suc, Bool, true, false, pos, List, [], ◌∷◌, length}
use Rattle.std.proofs.Common.{Option, Some, None, refl, sym, ap, ◌∙◌, subst}
use Rattle.std.specs.Prelude.{◌↔◌, int_lt}
use Rattle.zpl_nums.specs.declared.ends.End.TheVariants.{Done, More}
use Rattle.zpl_nums.specs.declared.operators.Op.{Op}
use Rattle.zpl_meaning.specs.of_zpl_tree.Syntax.{Name, Expr, Number, Truth, Coord, Named, Shifted, Around, Remap}
use Rattle.zpl_meaning.specs.of_zpl_tree.Syntax.{Call, Paren, Neg, Not, Abs, Pair, Reduce, Scan, Flood, Exprs}
use Rattle.zpl_meaning.specs.of_zpl_tree.Syntax.{ForHead, Prefix, Program, Stmt, Prefixed, Stmts, Form, Assign}
use Rattle.zpl_meaning.specs.of_zpl_tree.Syntax.{Invoke, Block, If, While, Repeat, For, Border, Write, Return}
use Rattle.zpl_meaning.specs.of_zpl_tree.Syntax.{Otherwise, NoElse, Else}
use Rattle.zpl_meaning.proofs.of_zpl_names.ListLemmas.{Among}
use Rattle.zpl_meaning.specs.of_zpl_names.Declared.{Routine, routine_named}
use Rattle.zpl_meaning.specs.of_zpl_names.Reached.{longest_chain}
use Rattle.zpl_meaning.specs.of_zpl_binding.Settings.{Setting}
use Rattle.zpl_meaning.specs.Computed.{Gives}
use Rattle.zpl_meaning.specs.Store.{Thing, Scalar, ArrayAt, Fixed, Store, thing_of}
use Rattle.zpl_meaning.specs.Store.{scalar_at, cut_back}
use Rattle.zpl_meaning.specs.Context.{Setup, Place}
use Rattle.zpl_meaning.specs.Regions.{over_in, under_prefix}
use Rattle.zpl_meaning.specs.Outcome.{Outcome, goes_on, choose, then_do}
use Rattle.zpl_meaning.specs.Outcome.{for_turns, while_turns, repeat_turns}
use Rattle.zpl_meaning.specs.Points.{shattered}
use Rattle.zpl_meaning.specs.Variables.{with_new_scalar}
use Rattle.zpl_meaning.specs.Calls.{Called, Handed, actuals_in}
use Rattle.zpl_meaning.specs.Statement.{Context, Start, line_of, exec, exec_all, exec_form}
use Rattle.zpl_meaning.specs.Statement.{exec_arms}
use Rattle.zpl_meaning.specs.Statement.{exec_otherwise, under, head_value, for_from, is_split}
use Rattle.zpl_meaning.specs.Statement.{test_of}
use Rattle.zpl_meaning.specs.Statement.{with_result}
use Rattle.zpl_meaning.specs.Program.{call_at, run_routine, entry_call, mean_of}
use Rattle.zpl_meaning.specs.Wanting.{ThenWants, HasNoLoopIn, ForWants}
use Rattle.zpl_meaning.specs.Visited.{parts_of, body_place}
use Rattle.zpl_meaning.proofs.MoreLemmas.{exec_ends, for_exact, sequence_exact}
use Rattle.meaning_runs.specs.Runner.{runner_at}
use Rattle.meaning_runs.specs.Met.{ComesUnder, IsCounting, set_at, GoesTo, call_of}
use Rattle.meaning_runs.specs.Met.{MakesCall, Opening, opening_of, context_at, body_store, IsMet}
use Rattle.meaning_runs.specs.Stops.{StopsAt, SomeLoopStops}
use Rattle.meaning_runs.proofs.PartLemmas.{by_parts, goes_among}
use Rattle.meaning_runs.proofs.LoopLemmas.{for_finds, for_wants}
use Rattle.meaning_runs.proofs.FormLemmas.{done_no_more, Runs, else_run, Wants, finds, comes_wants}
use Rattle.meaning_runs.proofs.FormLemmas.{turn_wants, all_finds, all_wants}
use Rattle.meaning_runs.proofs.TupleLemmas.{value_wants, value_goes, tuple_found}
use Rattle.meaning_runs.proofs.TupleLemmas.{tuple_stops}

false_no_true : {A : Type 0} → false ≡ true → A
false_no_true e = cc

-- ---- statements at a place

module _ (context : Context) (n : ℕ) where
  abbrev pub stmt_runs : Runs (runner_at context n)
  stmt_runs = record {
    arms = exec_arms context n;
    none = λ store. refl;
    next = λ first rest store. refl;
    last_arm = λ at last store. refl;
    first_arm = λ at own test body rest last store. refl;
  }

  abbrev FormWants : ℕ → Form → Store → Type 0
  FormWants at form store = Wants (runner_at context n) stmt_runs at form store

  run_else : (otherwise : Otherwise)
      → exec_otherwise context n otherwise ≡ else_run (runner_at context n) otherwise
  run_else NoElse = refl
  run_else (Else body) = refl

  -- one that may be shattered
  split_wants : (at : ℕ) (form : Form) (store : Store) (whole : Bool) (parts : Store → Outcome)
      → is_split context form ≡ whole
      → (choose whole (shattered context.place (line_of context.place at) n form) parts
      store).ending ≡ More
      → (Goal : Type 0) → (StopsAt context n at form store → Goal)
      → (is_split context form ≡ false → (parts store).ending ≡ More → Goal) → Goal
  split_wants at form store true parts is e Goal stops found =
      stops (StopsAt.Tuples at form store is
      (tuple_found context.place (line_of context.place at) n form store e))
  split_wants at form store false parts is e Goal stops found = found is e

  module _ (Goal : Type 0) where
    -- where it isn't shattered
    whole_finds : (at : ℕ) (form : Form) (store : Store) → is_split context form ≡ false
        → FormWants at form store → (StopsAt context n at form store → Goal)
        → ((part : Stmt) (later : Store) → GoesTo context n at form store part later
        → (exec context n part later).ending ≡ More → Goal)
        → Goal
    whole_finds at form store whole wants stops found =
        finds (runner_at context n) stmt_runs Goal at form store wants
        (λ turn. stops (StopsAt.Loop at form store whole turn))
        (λ part later comes. found part later
        (GoesTo.InForm at form store part later whole comes))

    for_form : (at : ℕ) (head : ForHead) (body : Stmts) (store : Store)
        → (exec_form context n at (For head body) store).ending ≡ More
        → (StopsAt context n at (For head body) store → Goal)
        → ((part : Stmt) (later : Store) → GoesTo context n at (For head body) store part later
        → (exec context n part later).ending ≡ More → Goal)
        → Goal
    for_form at head body store e stops found =
        let ran = value_wants (head_value context.place store head) store (line_of context.place at)
        (λ start. for_from n (thing_of context.place.environment head.name.text) start
        (exec_all context n body) store) e in
        by (thing_of context.place.environment head.name.text) refl ran.0 ran.1 ran.2
      where
        in_turns : (counting : IsCounting context.place head store)
            → (for_turns n counting.start.count (set_at counting.target) (exec_all context n body)
            counting.start.first store).ending ≡ More → Goal
        in_turns counting e =
            let count = counting.start.count in
            let set = set_at counting.target in
            let body_run = exec_all context n body in
            for_finds count set body_run Goal n counting.start.first store
            ((for_exact count set body_run n counting.start.first store).0 e)
            (λ value last comes past.
            stops (StopsAt.Counting at head body store value last counting comes past))
            (λ left value turn comes past more.
            all_finds (runner_at context n) stmt_runs Goal body (set value turn) more
            (λ part later reached. found part later
            (GoesTo.InFor at head body store left value turn part later counting comes past
            reached)))

        counts : (start : Start) (target : ℕ) (below : Bool)
            → head_value context.place store head ≡ Gives start
            → thing_of context.place.environment head.name.text ≡ Some (Scalar target)
            → int_lt start.count.by (pos 1) ≡ below
            → (choose below goes_on
            (for_turns n start.count (set_at target) (exec_all context n body) start.first)
            store).ending ≡ More
            → Goal
        counts start target true has is below e = done_no_more e
        counts start target false has is below e =
            in_turns (record {
              start = start;
              has = has;
              target = target;
              is_scalar = is;
              counts = below;
            }) e

        by : (thing : Option Thing)
            → thing_of context.place.environment head.name.text ≡ thing → (start : Start)
            → head_value context.place store head ≡ Gives start
            → (for_from n (thing_of context.place.environment head.name.text) start
            (exec_all context n body) store).ending ≡ More
            → Goal
        by (Some (Scalar target)) is start has e =
            counts start target (int_lt start.count.by (pos 1)) has is refl
            (sym (ap (λ thing. (for_from n thing start (exec_all context n body) store).ending) is)
            ∙ e)
        by (Some (ArrayAt target home)) is start has e =
            done_no_more
            (sym (ap (λ thing. (for_from n thing start (exec_all context n body) store).ending) is)
            ∙ e)
        by (Some (Fixed value)) is start has e =
            done_no_more
            (sym (ap (λ thing. (for_from n thing start (exec_all context n body) store).ending) is)
            ∙ e)
        by None is start has e =
            done_no_more
            (sym (ap (λ thing. (for_from n thing start (exec_all context n body) store).ending) is)
            ∙ e)

    -- ---- calls

    abbrev CallFinds : Form → Store → Type 0
    CallFinds form store =
        (called : Called) (before : Store) → MakesCall context.place store form called before
        → (context.call called before).ending ≡ More → Goal

    -- one without loops and calls
    simple : (place : Place) (at : ℕ) (form : Form) (store : Store) → HasNoLoopIn form
        → (exec_form (record { place = place; call = λ called store. goes_on store }) n at form
        store).ending ≡ More
        → Goal
    simple place at form store bare e =
        absurd (exec_ends n (λ called store. goes_on store) (λ called store more. done_no_more more)
        (Prefixed at [] form) bare place store e)

    invoke_finds : (at : ℕ) (name : Name) (actuals : Exprs) (store : Store)
        → (exec_form context n at (Invoke name actuals) store).ending ≡ More
        → CallFinds (Invoke name actuals) store → Goal
    invoke_finds at name actuals store e found =
        let ran = value_wants (actuals_in context.place store name actuals) store
        (line_of context.place at) (λ handed.
        context.call (call_of context.place name handed 0) store) e in
        found (call_of context.place name ran.0 0) store
        (MakesCall.AsStatement name actuals ran.0 ran.1) ran.2

    answer_finds : (at offset : ℕ) (target name : Name) (actuals : Exprs) (store : Store)
        → (exec_form context n at (Assign target None (Call offset name actuals)) store).ending
        ≡ More
        → CallFinds (Assign target None (Call offset name actuals)) store → Goal
    answer_finds at offset target name actuals store e found =
        let rest : Store → Outcome = λ after.
        goes_on
        (with_result (thing_of context.place.environment target.text)
        (scalar_at after (length store.scalars)) (cut_back store after)) in
        let call : List Handed → Outcome = λ handed. context.call
        (call_of context.place name handed (length store.scalars))
        (with_new_scalar store (pos 0)) in
        let ran = value_wants (actuals_in context.place store name actuals) store
        (line_of context.place at) (λ handed. then_do (call handed) rest) e in
        by ran.0 ran.1 rest (λ after. refl) ((sequence_exact (call ran.0) rest).0 ran.2)
      where
        by : (handed : List Handed)
            → actuals_in context.place store name actuals ≡ Gives handed
            → (rest : Store → Outcome) → ((after : Store) → (rest after).ending ≡ Done)
            → ThenWants (context.call (call_of context.place name handed (length store.scalars))
            (with_new_scalar store (pos 0))) rest
            → Goal
        by handed has rest ends (ThenWants.at_first more) =
            found (call_of context.place name handed (length store.scalars))
            (with_new_scalar store (pos 0))
            (MakesCall.AsAnswer target name offset actuals handed has) more
        by handed has rest ends (ThenWants.at_next done more) =
            done_no_more (sym (ends _) ∙ more)

    assign_finds : (at : ℕ) (name : Name) (op : Option Op) (value : Expr) (store : Store)
        → (exec_form context n at (Assign name op value) store).ending ≡ More
        → CallFinds (Assign name op value) store → Goal
    assign_finds at name None (Call offset callee actuals) store e found =
        answer_finds at offset name callee actuals store e found
    assign_finds at name None (Number offset value) store e found =
        simple context.place at (Assign name None (Number offset value)) store tt e
    assign_finds at name None (Truth offset value) store e found =
        simple context.place at (Assign name None (Truth offset value)) store tt e
    assign_finds at name None (Coord offset k) store e found =
        simple context.place at (Assign name None (Coord offset k)) store tt e
    assign_finds at name None (Named offset read) store e found =
        simple context.place at (Assign name None (Named offset read)) store tt e
    assign_finds at name None (Shifted offset read shift) store e found =
        simple context.place at (Assign name None (Shifted offset read shift)) store tt e
    assign_finds at name None (Around offset read shift) store e found =
        simple context.place at (Assign name None (Around offset read shift)) store tt e
    assign_finds at name None (Remap offset read indices) store e found =
        simple context.place at (Assign name None (Remap offset read indices)) store tt e
    assign_finds at name None (Paren offset inside) store e found =
        simple context.place at (Assign name None (Paren offset inside)) store tt e
    assign_finds at name None (Neg offset operand) store e found =
        simple context.place at (Assign name None (Neg offset operand)) store tt e
    assign_finds at name None (Not offset operand) store e found =
        simple context.place at (Assign name None (Not offset operand)) store tt e
    assign_finds at name None (Abs offset operand) store e found =
        simple context.place at (Assign name None (Abs offset operand)) store tt e
    assign_finds at name None (Pair offset op left right) store e found =
        simple context.place at (Assign name None (Pair offset op left right)) store tt e
    assign_finds at name None (Reduce offset operator over operand) store e found =
        simple context.place at (Assign name None (Reduce offset operator over operand)) store tt e
    assign_finds at name None (Scan offset operator along operand) store e found =
        simple context.place at (Assign name None (Scan offset operator along operand)) store tt e
    assign_finds at name None (Flood offset source operand) store e found =
        simple context.place at (Assign name None (Flood offset source operand)) store tt e
    assign_finds at name (Some op) value store e found =
        simple context.place at (Assign name (Some op) value) store tt e

    -- ---- each form

    pub form_finds : (at : ℕ) (form : Form) (store : Store)
        → (exec_form context n at form store).ending ≡ More
        → (StopsAt context n at form store → Goal)
        → ((part : Stmt) (later : Store) → GoesTo context n at form store part later
        → (exec context n part later).ending ≡ More → Goal)
        → CallFinds form store → Goal
    form_finds at (Block body) store e stops found calls =
        whole_finds at (Block body) store refl e stops found
    form_finds at (If arms otherwise) store e stops found calls =
        split_wants at (If arms otherwise) store (is_split context (If arms otherwise))
        (exec_arms context n at arms (exec_otherwise context n otherwise)) refl e Goal stops
        (λ whole wants. whole_finds at (If arms otherwise) store whole
        (sym (ap (λ last. (exec_arms context n at arms last store).ending) (run_else otherwise))
        ∙ wants) stops found)
    form_finds at (While test body) store e stops found calls =
        split_wants at (While test body) store (is_split context (While test body))
        (while_turns n (test_of context.place test at) (exec_all context n body)) refl e Goal stops
        (λ whole wants. whole_finds at (While test body) store whole wants stops found)
    form_finds at (Repeat body until test) store e stops found calls =
        split_wants at (Repeat body until test) store (is_split context (Repeat body until test))
        (repeat_turns n (test_of context.place test until) (exec_all context n body)) refl e Goal
        stops
        (λ whole wants. whole_finds at (Repeat body until test) store whole wants stops found)
    form_finds at (For head body) store e stops found calls =
        for_form at head body store e stops found
    form_finds at (Assign name op value) store e stops found calls =
        assign_finds at name op value store e calls
    form_finds at (Invoke name actuals) store e stops found calls =
        invoke_finds at name actuals store e calls
    form_finds at (Border kind names) store e stops found calls =
        simple context.place at (Border kind names) store tt e
    form_finds at (Write line items) store e stops found calls =
        simple context.place at (Write line items) store tt e
    form_finds at (Return value) store e stops found calls =
        simple context.place at (Return value) store tt e

  -- ---- back

  choose_false : (whole : Bool) (one other : Store → Outcome) (store : Store) → whole ≡ false
      → (choose whole one other store).ending ≡ (other store).ending
  choose_false whole one other store is =
      ap (λ b. (choose b one other store).ending) is

  choose_true : (whole : Bool) (one other : Store → Outcome) (store : Store) → whole ≡ true
      → (choose whole one other store).ending ≡ (one store).ending
  choose_true whole one other store is =
      ap (λ b. (choose b one other store).ending) is

  whole_wants : (at : ℕ) (form : Form) (store : Store) → is_split context form ≡ false
      → FormWants at form store → (exec_form context n at form store).ending ≡ More
  whole_wants at (Block body) store whole wants = wants
  whole_wants at (If arms otherwise) store whole wants =
      choose_false (is_split context (If arms otherwise))
      (shattered context.place (line_of context.place at) n (If arms otherwise))
      (exec_arms context n at arms (exec_otherwise context n otherwise)) store whole
      ∙ (ap (λ last. (exec_arms context n at arms last store).ending) (run_else otherwise) ∙ wants)
  whole_wants at (While test body) store whole wants =
      choose_false (is_split context (While test body))
      (shattered context.place (line_of context.place at) n (While test body))
      (while_turns n (test_of context.place test at) (exec_all context n body)) store whole ∙ wants
  whole_wants at (Repeat body until test) store whole wants =
      choose_false (is_split context (Repeat body until test))
      (shattered context.place (line_of context.place at) n (Repeat body until test))
      (repeat_turns n (test_of context.place test until) (exec_all context n body)) store whole
      ∙ wants
  whole_wants at (Assign name op value) store whole wants = absurd wants
  whole_wants at (Invoke name actuals) store whole wants = absurd wants
  whole_wants at (For head body) store whole wants = absurd wants
  whole_wants at (Border kind names) store whole wants = absurd wants
  whole_wants at (Write line items) store whole wants = absurd wants
  whole_wants at (Return value) store whole wants = absurd wants

  split_stops : (at : ℕ) (form : Form) (store : Store) → is_split context form ≡ true
      → (shattered context.place (line_of context.place at) n form store).ending ≡ More
      → (exec_form context n at form store).ending ≡ More
  split_stops at (If arms otherwise) store whole e =
      choose_true (is_split context (If arms otherwise))
      (shattered context.place (line_of context.place at) n (If arms otherwise))
      (exec_arms context n at arms (exec_otherwise context n otherwise)) store whole ∙ e
  split_stops at (While test body) store whole e =
      choose_true (is_split context (While test body))
      (shattered context.place (line_of context.place at) n (While test body))
      (while_turns n (test_of context.place test at) (exec_all context n body)) store whole ∙ e
  split_stops at (Repeat body until test) store whole e =
      choose_true (is_split context (Repeat body until test))
      (shattered context.place (line_of context.place at) n (Repeat body until test))
      (repeat_turns n (test_of context.place test until) (exec_all context n body)) store whole
      ∙ e
  split_stops at (Block body) store whole e = false_no_true whole
  split_stops at (Assign name op value) store whole e = false_no_true whole
  split_stops at (Invoke name actuals) store whole e = false_no_true whole
  split_stops at (For head body) store whole e = false_no_true whole
  split_stops at (Border kind names) store whole e = false_no_true whole
  split_stops at (Write line items) store whole e = false_no_true whole
  split_stops at (Return value) store whole e = false_no_true whole

  for_stops : (at : ℕ) (head : ForHead) (body : Stmts) (store : Store)
      (counting : IsCounting context.place head store)
      → ForWants counting.start.count (set_at counting.target) (exec_all context n body) n
      counting.start.first store
      → (exec_form context n at (For head body) store).ending ≡ More
  for_stops at head body store counting wants =
      let body_run = exec_all context n body in
      value_goes (head_value context.place store head) store (line_of context.place at)
      (λ start. for_from n (thing_of context.place.environment head.name.text) start body_run store)
      counting.start counting.has
      ∙ (ap (λ thing. (for_from n thing counting.start body_run store).ending) counting.is_scalar
      ∙ (choose_false (int_lt counting.start.count.by (pos 1)) goes_on
      (for_turns n counting.start.count (set_at counting.target) body_run counting.start.first)
      store counting.counts
      ∙ (for_exact counting.start.count (set_at counting.target) body_run n counting.start.first
      store).1 wants))

  pub stops_want : (at : ℕ) (form : Form) (store : Store) → StopsAt context n at form store
      → (exec_form context n at form store).ending ≡ More
  stops_want at form store (StopsAt.Loop offset loop same whole turn) =
      whole_wants offset loop same whole
      (turn_wants (runner_at context n) stmt_runs offset loop same turn)
  stops_want at form store
      (StopsAt.Counting offset head body same value last counting comes past) =
      for_stops offset head body same counting
      (for_wants counting.start.count (set_at counting.target) (exec_all context n body) n
      counting.start.first same zero value last comes (ForWants.no_turn_left past))
  stops_want at form store (StopsAt.Tuples offset whole same is stops) =
      split_stops offset whole same is
      (tuple_stops context.place (line_of context.place offset) n whole same stops)

  pub goes_want : (at : ℕ) (form : Form) (store : Store) (part : Stmt) (later : Store)
      → GoesTo context n at form store part later → (exec context n part later).ending ≡ More
      → (exec_form context n at form store).ending ≡ More
  goes_want at form store part later (GoesTo.InForm offset from same next after whole comes) more =
      whole_wants offset from same whole
      (comes_wants (runner_at context n) stmt_runs offset from same next after comes more)
  goes_want at form store part later
      (GoesTo.InFor offset head body from left value turn next after counting to past comes) more =
      for_stops offset head body from counting
      (for_wants counting.start.count (set_at counting.target) (exec_all context n body) n
      counting.start.first from (suc left) value turn to
      (ForWants.in_a_turn past
      (all_wants (runner_at context n) stmt_runs body (set_at counting.target value turn) next after
      comes more)))

  pub call_wants : (at : ℕ) (form : Form) (store : Store) (called : Called) (before : Store)
      → MakesCall context.place store form called before
      → (context.call called before).ending ≡ More
      → (exec_form context n at form store).ending ≡ More
  call_wants at form store called before (MakesCall.AsStatement name actuals handed has) more =
      value_goes (actuals_in context.place store name actuals) store (line_of context.place at)
      (λ given. context.call (call_of context.place name given 0) store) handed has ∙ more
  call_wants at form store called before
      (MakesCall.AsAnswer target name offset actuals handed has) more =
      let rest : Store → Outcome = λ after.
      goes_on
      (with_result (thing_of context.place.environment target.text)
      (scalar_at after (length store.scalars)) (cut_back store after)) in
      let call : List Handed → Outcome = λ given. context.call
      (call_of context.place name given (length store.scalars)) (with_new_scalar store (pos 0)) in
      value_goes (actuals_in context.place store name actuals) store (line_of context.place at)
      (λ given. then_do (call given) rest) handed has
      ∙ (sequence_exact (call handed) rest).1 (ThenWants.at_first more)

-- ---- the run

module _ (opening : Opening) where
  abbrev setup : Setup
  setup = opening.setup

  abbrev ctx : ℕ → Place → Context
  ctx = context_at opening

  -- ---- forth

  under_finds : (Goal : Type 0) (deeper : ℕ) (prefixes : List Prefix) (place : Place)
      (store : Store) (next : Context → Outcome)
      → (under (ctx deeper place) prefixes store next).ending ≡ More
      → ((inner : Place) → ComesUnder store prefixes place inner
      → (next (ctx deeper inner)).ending ≡ More → Goal)
      → Goal
  under_finds Goal deeper [] place store next e found = found place (ComesUnder.Bare place) e
  under_finds Goal deeper (prefix ∷ rest) place store next e found =
      let ran = value_wants (over_in place store prefix) store (line_of place prefix.at)
      (λ over. under (ctx deeper (under_prefix place prefix over)) rest store next) e in
      under_finds Goal deeper rest (under_prefix place prefix ran.0) store next ran.2
      (λ inner comes. found inner
      (ComesUnder.Behind prefix rest place inner ran.0 ran.1 comes))

  -- the body of what is called is met
  abbrev pub IsCallMet : ℕ → Called → Store → Type 0
  IsCallMet deeper called before =
      (less : ℕ) (routine : Routine) → deeper ≡ suc less
      → routine_named setup.program called.name ≡ Some routine
      → IsMet opening less (body_place setup routine called before) routine.procedure.body
      (body_store setup routine called before)

  abbrev CallsFound : ℕ → Type 0
  CallsFound deeper =
      (called : Called) (before : Store) → IsCallMet deeper called before
      → (call_at setup opening.bound deeper called before).ending ≡ More → SomeLoopStops opening

  abbrev StmtFound : ℕ → Stmt → Type 0
  StmtFound deeper stmt =
      (place : Place) (store : Store) → IsMet opening deeper place stmt store
      → (exec (ctx deeper place) opening.bound stmt store).ending ≡ More → SomeLoopStops opening

  pub met_call : (deeper : ℕ) (place inner : Place) (at : ℕ) (prefixes : List Prefix) (form : Form)
      (store : Store) (called : Called) (before : Store)
      → IsMet opening deeper place (Prefixed at prefixes form) store
      → ComesUnder store prefixes place inner → MakesCall inner store form called before
      → IsCallMet deeper called before
  met_call deeper place inner at prefixes form store called before met comes makes less routine is
      named =
      IsMet.Calls less place inner at prefixes form store called before routine
      (subst (λ (d : ℕ). IsMet opening d place (Prefixed at prefixes form) store) is met) comes
      makes named

  stmt_step : (deeper : ℕ) → CallsFound deeper → (at : ℕ) (prefixes : List Prefix) (form : Form)
      → ((part : Stmt) → Among (parts_of form) part → StmtFound deeper part)
      → StmtFound deeper (Prefixed at prefixes form)
  stmt_step deeper calls at prefixes form parts place store met e =
      under_finds (SomeLoopStops opening) deeper prefixes place store
      (λ inner. exec_form inner opening.bound at form store) e (λ inner comes more.
      form_finds (ctx deeper inner) opening.bound (SomeLoopStops opening) at form store more
      (λ stops. record {
        deeper = deeper;
        place = place;
        at = at;
        prefixes = prefixes;
        form = form;
        store = store;
        met = met;
        inner = inner;
        under = comes;
        stops = stops;
      })
      (λ part later goes. parts part
      (goes_among (ctx deeper inner) opening.bound at form store part later goes) inner later
      (IsMet.Holds deeper place inner at prefixes form store part later met comes goes))
      (λ called before makes. calls called before
      (met_call deeper place inner at prefixes form store called before met comes makes)))

  stmt_found : (deeper : ℕ) → CallsFound deeper → (stmt : Stmt) → StmtFound deeper stmt
  stmt_found deeper calls stmt = by_parts (StmtFound deeper) (stmt_step deeper calls) stmt

  calls_found : (deeper : ℕ) → CallsFound deeper
  calls_found zero called before met e = done_no_more e
  calls_found (suc less) called before met e =
      by (routine_named setup.program called.name) refl e (calls_found less)
    where
      by : (found : Option Routine) → routine_named setup.program called.name ≡ found
          → (run_routine setup opening.bound (call_at setup opening.bound less) found called
          before).ending ≡ More
          → CallsFound less → SomeLoopStops opening
      by None is e calls = done_no_more e
      by (Some routine) is e calls =
          stmt_found less calls routine.procedure.body (body_place setup routine called before)
          (body_store setup routine called before) (met less routine refl is) e

  -- the whole run
  abbrev pub entered_run : Outcome
  entered_run =
      call_at setup opening.bound longest_chain (entry_call setup.program) opening.store

  pub loop_found : entered_run.ending ≡ More → SomeLoopStops opening
  loop_found e =
      calls_found longest_chain (entry_call setup.program) opening.store
      (λ less routine is named. IsMet.Begins less routine is named) e

  -- ---- back

  under_wants : (deeper : ℕ) (store : Store) (next : Context → Outcome) (prefixes : List Prefix)
      (place inner : Place) → ComesUnder store prefixes place inner
      → (next (ctx deeper inner)).ending ≡ More
      → (under (ctx deeper place) prefixes store next).ending ≡ More
  under_wants deeper store next prefixes place inner (ComesUnder.Bare same) more = more
  under_wants deeper store next prefixes place inner
      (ComesUnder.Behind prefix rest outer last over is comes) more =
      value_goes (over_in outer store prefix) store (line_of outer prefix.at)
      (λ given. under (ctx deeper (under_prefix outer prefix given)) rest store next) over is
      ∙ under_wants deeper store next rest (under_prefix outer prefix over) last comes more

  routine_wants : (deeper : ℕ) (called : Called) (before : Store) (routine : Routine)
      → routine_named setup.program called.name ≡ Some routine
      → (exec (ctx deeper (body_place setup routine called before)) opening.bound
      routine.procedure.body (body_store setup routine called before)).ending ≡ More
      → (call_at setup opening.bound (suc deeper) called before).ending ≡ More
  routine_wants deeper called before routine named more =
      ap (λ found. (run_routine setup opening.bound (call_at setup opening.bound deeper) found
      called before).ending) named ∙ more

  met_wants : (deeper : ℕ) (place : Place) (stmt : Stmt) (store : Store)
      → IsMet opening deeper place stmt store
      → (exec (ctx deeper place) opening.bound stmt store).ending ≡ More
      → entered_run.ending ≡ More
  met_wants deeper place stmt store (IsMet.Begins less routine chain named) more =
      ap (λ (d : ℕ). (call_at setup opening.bound d (entry_call setup.program)
      opening.store).ending) chain
      ∙ routine_wants less (entry_call setup.program) opening.store routine named more
  met_wants deeper place stmt store
      (IsMet.Holds less outer inner at prefixes form from part later met comes goes) more =
      met_wants less outer (Prefixed at prefixes form) from met
      (under_wants less from (λ context. exec_form context opening.bound at form from) prefixes
      outer inner comes
      (goes_want (ctx less inner) opening.bound at form from part later goes more))
  met_wants deeper place stmt store
      (IsMet.Calls less outer inner at prefixes form from called before routine met comes makes
      named) more =
      met_wants (suc less) outer (Prefixed at prefixes form) from met
      (under_wants (suc less) from (λ context. exec_form context opening.bound at form from)
      prefixes outer inner comes
      (call_wants (ctx (suc less) inner) opening.bound at form from called before makes
      (routine_wants less called before routine named more)))

  pub loop_stops : SomeLoopStops opening → entered_run.ending ≡ More
  loop_stops stops =
      met_wants stops.deeper stops.place (Prefixed stops.at stops.prefixes stops.form) stops.store
      stops.met
      (under_wants stops.deeper stops.store
      (λ context. exec_form context opening.bound stops.at stops.form stops.store) stops.prefixes
      stops.place stops.inner stops.under
      (stops_want (ctx stops.deeper stops.inner) opening.bound stops.at stops.form stops.store
      stops.stops))

pub more_exact : (program : Program) (settings : List Setting) (n : ℕ)
    → ((mean_of program settings n).ending ≡ More) ↔ SomeLoopStops (opening_of program settings n)
more_exact program settings n =
    (loop_found (opening_of program settings n), loop_stops (opening_of program settings n))

-- A status of `run` with its cause comes just where that cause is.
use Rattle.std.proofs.Common.{◌≡◌, ◌≢◌, ℕ, Bool, List, [], Option, Some, None, Err, codes, refl, sym, subst, inl, inr, arith}
use Rattle.node_form.specs.declared.tables.Tables.{Tables}
use Rattle.zpl_claims.specs.Build.{Build}
use Rattle.grid_meaning.specs.Grid.{IsCapacity, processors}
use Rattle.grid_order.specs.Reading.{reading}
use Rattle.grid_runs.specs.Run.{Run, IsLimitedAt}
use Rattle.call_claims.specs.Call.{Call}
use Rattle.list_claims.specs.Cause.CodeCause.{faulty, made}
use Rattle.call_claims.specs.Cause.FileCause.{unreadable, too_long, work}
use Rattle.call_claims.specs.Decided.{IsDecided, IsSettled}
use Rattle.list_claims.specs.Decided.{HasNoProgramIn, HasUnboundIn}
use Rattle.call_claims.specs.Execution.{Execution}
use Rattle.call_claims.specs.declared.status.TheConstants.{DONE, UNREADABLE, TOO_LONG, REFUSED}
use Rattle.call_claims.specs.declared.status.TheConstants.{UNBOUND, TRAPPED, TURN_LIMIT, NO_MEMORY}
use Rattle.list_claims.proofs.ProgramLemmas.{IsOther, fault_other, none_made, one_made, refused_of}
use Rattle.list_claims.proofs.ProgramLemmas.{unbound_of, was_refused_in, was_too_long_in, was_unbound_in}
use Rattle.call_claims.specs.Command.{Asked, IsRun, RunTakes, build_of}
use Rattle.list_claims.specs.Code.{IsCodeOf}
use Rattle.call_claims.proofs.MetLemmas.{is_met}
use Rattle.call_claims.proofs.OneLemmas.{as_asked}
use Rattle.exec_claims.specs.Cause.{OrderCause, OrderFileCause, RunCause, run_of}
use Rattle.exec_claims.specs.Cause.RunCause.{done, trap, turn_limit, stuck, idle}
use Rattle.exec_claims.specs.Cause.OrderCause.{bad_item, ran}
use Rattle.exec_claims.specs.Cause.TextCause.{unreadable as order_unreadable, too_long as order_long, work as of_order}
use Rattle.exec_claims.specs.Decided.{HasBadOrder, HasLongOrder, IsDoneAt, IsOneOrder}
use Rattle.exec_claims.specs.Decided.{IsStuckOrIdleAt, IsTrapAt}
use Rattle.exec_claims.specs.declared.status.TheConstants.{ORDER_REFUSED, STUCK}
use Rattle.exec_claims.proofs.Exact.{order_file_cause, order_file_run, run_done, run_limit}
use Rattle.exec_claims.proofs.Exact.{run_stuck, run_trap, told_done, told_limit}
use Rattle.exec_claims.proofs.Exact.{told_trap}
use Rattle.exec_claims.proofs.RunStatus.{IsRunStatus, is_done, is_limit, is_stuck, is_trapped}
use Rattle.exec_claims.proofs.OneCause.{IsOneFile, order_file_one}
use Rattle.exec_claims.proofs.OrderExact.{bad_order_file, long_order, was_bad_order, was_long_order}
use Rattle.run_claims.specs.Cause.{Cause, RunFileCause, Runs}
use Rattle.run_claims.specs.Cause.Cause.{no_memory, run}
use Rattle.run_claims.specs.Decided.{HasCodeOf, HasLongFile, IsCutShort, IsExact}
use Rattle.run_claims.specs.Decided.{IsUnder}
use Rattle.run_claims.proofs.CodeLemmas.{Laws, never_idle, never_stuck, too_few}

-- ---- statuses of orders and of runs
record IsLater (n : ℕ) : Type 0 where
  refused : n ≢ REFUSED
  unbound : n ≢ UNBOUND

run_later : {a : Run} {report : Bool} {k n : ℕ} {told : List ℕ} → RunCause a report k n told
    → IsLater n
run_later (done e) =
    record { refused = λ h. omega arith; unbound = λ h. omega arith }
run_later (trap kind line e) =
    record { refused = λ h. omega arith; unbound = λ h. omega arith }
run_later (turn_limit e) =
    record { refused = λ h. omega arith; unbound = λ h. omega arith }
run_later (stuck p kind e) =
    record { refused = λ h. omega arith; unbound = λ h. omega arith }
run_later (idle p e) =
    record { refused = λ h. omega arith; unbound = λ h. omega arith }

module _ (call : Call) (code : Tables) (asked : Asked) (turns : ℕ) where
  order_later : (text : List ℕ) {n : ℕ} {told : List ℕ} → OrderCause code asked turns text n told
      → IsLater n
  order_later text (bad_item at e z) =
      record { refused = λ h. omega arith; unbound = λ h. omega arith }
  order_later text (ran order e goes c) = run_later c

  order_file_later : (file : Option (List ℕ)) (n : ℕ) (told : List ℕ)
      → OrderFileCause call code asked turns file n told → IsLater n
  order_file_later None n told c = order_later [] c
  order_file_later (Some file) n told (order_unreadable may ends) =
      record { refused = λ h. omega arith; unbound = λ h. omega arith }
  order_file_later (Some file) n told (order_long long ends) =
      record { refused = λ h. omega arith; unbound = λ h. omega arith }
  order_file_later (Some file) n told (of_order source w) = order_later source.text w

-- the order is one for both statuses
one_order : (call : Call) (n m : ℕ) (file : Option (List ℕ)) → m ≢ UNREADABLE
    → IsOneOrder call n file → IsOneFile call n m file
one_order call n m None other is = tt
one_order call n m (Some file) other is = (is.0, other, is.1)

settled_order : (call : Call) (n : ℕ) (file : Option (List ℕ)) → IsSettled call n
    → IsOneOrder call n file
settled_order call n None settled = tt
settled_order call n (Some file) settled = (settled.read, settled.one file)

-- ---- a file
module _ (call : Call) (ex : Execution) (file : List ℕ) (asked : Asked) where
  abbrev build : Build
  build = build_of asked

  abbrev Does : Tables → ℕ → List ℕ → Type 0
  Does code = OrderFileCause call code asked ex.turns asked.order

  does_other : (code : Tables) (n : ℕ) (told : List ℕ) → Does code n told
      → IsOther call file build ex Does n
  does_other code n told c =
      let later = order_file_later call code asked ex.turns asked.order n told c in
      record { refused = later.refused; unbound = later.unbound }

  abbrev FileCause : ℕ → List ℕ → Type 0
  FileCause = RunFileCause call file asked ex

  -- ---- what was run
  abbrev UnderCause : ℕ → List ℕ → Tables → Type 0
  UnderCause n told = IsUnder call asked ex.turns (λ a k. RunCause a asked.report k n told)

  under : (code : Tables) {n : ℕ} {told : List ℕ} → Does code n told → IsRunStatus n
      → UnderCause n told code
  under code c s =
      let o = order_file_run call code asked ex.turns asked.order c s.order s.unreadable s.too_long
      in
      record {
        text = o.0;
        order_text = o.1;
        order = o.2.order;
        read = o.2.read;
        goes_on = o.2.goes_on;
        holds = o.2.cause;
      }

  file_code : {n : ℕ} {told : List ℕ} → FileCause n told → IsRunStatus n
      → HasCodeOf call file build ex (UnderCause n told)
  file_code (unreadable may none) s = absurd (s.unreadable refl)
  file_code (too_long long none) s = absurd (s.too_long refl)
  file_code (work source (faulty fault none)) s =
      absurd (elim (fault_other fault) [ inl e ↦ s.refused e | inr e ↦ s.unbound e ])
  file_code (work source (made code of_text is does)) s = record {
    source = source;
    code = code;
    of_text = of_text;
    made = is;
    holds = under code does s;
  }

  -- what was run has this status alone
  file_was : {n : ℕ} {told : List ℕ} (m : ℕ) (Holds : Run → ℕ → Type 0) → FileCause n told
      → IsOneOrder call n asked.order → m ≢ UNREADABLE
      → ((a : Run) (k : ℕ) (report : Bool) → Holds a k
      → (t : List ℕ) × RunCause a report k m t)
      → HasCodeOf call file build ex (IsUnder call asked ex.turns Holds) → n ≡ m
  file_was m Holds (unreadable may none) one read f h = absurd (none_made ex none h.made)
  file_was m Holds (too_long long none) one read f h = absurd (none_made ex none h.made)
  file_was m Holds (work source (faulty fault none)) one read f h =
      absurd (none_made ex none h.made)
  file_was {n = n} {told = told} m Holds (work source (made code of_text is does)) one read f h =
      let u = h.holds in
      let c = f (run_of h.code asked u.order) ex.turns asked.report u.holds in
      let there : OrderFileCause call h.code asked ex.turns asked.order m c.0 =
      order_file_cause call h.code asked ex.turns asked.order u.text u.order_text
      (ran u.order u.read u.goes_on c.1) in
      order_file_one call asked code ex.turns asked.order n m told c.0
      (one_order call n m asked.order read one) does
      (subst (λ t. OrderFileCause call t asked ex.turns asked.order m c.0)
      (one_made ex h.made is) there)

  -- ---- files that are too long
  file_long : {n : ℕ} {told : List ℕ} → FileCause n told → n ≡ TOO_LONG
      → HasLongFile call file asked ex
  file_long (unreadable may none) e = absurd (omega arith)
  file_long (too_long long none) e = inl long
  file_long (work source (faulty fault none)) e = absurd (elim (fault_other fault)
      [ inl f ↦ omega (arith, e, f) | inr f ↦ omega (arith, e, f) ])
  file_long (work source (made code of_text is does)) e = inr (record {
    source = source;
    code = code;
    of_text = of_text;
    made = is;
    holds = long_order call code asked ex.turns asked.order _ _ does e;
  })

  long_made : {n : ℕ} {told : List ℕ} → FileCause n told → IsSettled call n
      → HasCodeOf call file build ex (λ code. HasLongOrder call asked.order) → n ≡ TOO_LONG
  long_made (unreadable may none) settled h = absurd (settled.read refl)
  long_made (too_long long none) settled h = refl
  long_made (work source (faulty fault none)) settled h = absurd (none_made ex none h.made)
  long_made {n = n} (work source (made code of_text is does)) settled h =
      was_long_order call code asked ex.turns asked.order _ _ does
      (settled_order call n asked.order settled) h.holds

  was_file_long : {n : ℕ} {told : List ℕ} → FileCause n told → IsSettled call n
      → HasLongFile call file asked ex → n ≡ TOO_LONG
  was_file_long c settled (inl long) =
      was_too_long_in call file build ex Does (settled.one file) c settled.read long
  was_file_long c settled (inr h) = long_made c settled h

  -- ---- wrong items
  file_bad : {n : ℕ} {told : List ℕ} → FileCause n told → n ≡ ORDER_REFUSED
      → HasCodeOf call file build ex (HasBadOrder call asked)
  file_bad (unreadable may none) e = absurd (omega arith)
  file_bad (too_long long none) e = absurd (omega arith)
  file_bad (work source (faulty fault none)) e = absurd (elim (fault_other fault)
      [ inl f ↦ omega (arith, e, f) | inr f ↦ omega (arith, e, f) ])
  file_bad (work source (made code of_text is does)) e =
      let o = bad_order_file call code asked ex.turns asked.order _ _ does e in
      record {
        source = source;
        code = code;
        of_text = of_text;
        made = is;
        holds = record { text = o.0; order_text = o.1; at = o.2.0; bad = o.2.1 };
      }

  was_file_bad : {n : ℕ} {told : List ℕ} → FileCause n told → IsOneOrder call n asked.order
      → HasCodeOf call file build ex (HasBadOrder call asked) → n ≡ ORDER_REFUSED
  was_file_bad (unreadable may none) one h = absurd (none_made ex none h.made)
  was_file_bad (too_long long none) one h = absurd (none_made ex none h.made)
  was_file_bad (work source (faulty fault none)) one h = absurd (none_made ex none h.made)
  was_file_bad (work source (made code of_text is does)) one h =
      let b = h.holds in
      was_bad_order call code asked ex.turns asked.order _ _ does one b.text b.order_text b.at
      (subst (λ t. reading (processors t) b.text ≡ Err b.at) (one_made ex h.made is) b.bad)

-- ---- any call
module _ (call : Call) (ex : Execution) where
  from : (m : ℕ) (Holds : List ℕ → Asked → Type 0) → m ≢ NO_MEMORY
      → {n : ℕ} {told : List ℕ}
      → ((file : List ℕ) (asked : Asked) → IsRun call.words file asked
      → RunFileCause call file asked ex n told → n ≡ m → Holds file asked)
      → Cause call ex n told → n ≡ m → Runs call Holds
  from m Holds other to no_memory e = absurd (other (sym e))
  from m Holds other to (run r) e = record {
    file = r.file;
    asked = r.asked;
    given = r.given;
    holds = to r.file r.asked r.given r.holds e;
  }

  back : (m : ℕ) (Holds : List ℕ → Asked → Type 0) → {n : ℕ} {told : List ℕ}
      → IsDecided n
      → ((file : List ℕ) (asked : Asked) → IsRun call.words file asked
      → RunFileCause call file asked ex n told → Holds file asked → n ≡ m)
      → Cause call ex n told → Runs call Holds → n ≡ m
  back m Holds d to no_memory h = absurd (d.memory refl)
  back m Holds d to (run r) h = to r.file r.asked r.given r.holds
      (as_asked (codes "run") RunTakes call.words r h)

  -- ---- runs
  abbrev Under : (Run → ℕ → Type 0) → List ℕ → Asked → Type 0
  Under Holds file asked =
      HasCodeOf call file (build_of asked) ex (IsUnder call asked ex.turns Holds)

  run_to : (m : ℕ) (Holds : Run → ℕ → Type 0) → IsRunStatus m
      → ((a : Run) (report : Bool) (k n : ℕ) (told : List ℕ) → RunCause a report k n told
      → n ≡ m → Holds a k) → {n : ℕ} {told : List ℕ}
      (file : List ℕ) (asked : Asked)
      → RunFileCause call file asked ex n told → n ≡ m → Under Holds file asked
  run_to m Holds s f {n = n} {told = told} file asked c e =
      let h = file_code call ex file asked c (subst IsRunStatus (sym e) s) in
      record {
        source = h.source;
        code = h.code;
        of_text = h.of_text;
        made = h.made;
        holds = record {
          text = h.holds.text;
          order_text = h.holds.order_text;
          order = h.holds.order;
          read = h.holds.read;
          goes_on = h.holds.goes_on;
          holds = f (run_of h.code asked h.holds.order) asked.report ex.turns n told
              h.holds.holds e;
        };
      }

  module _ (laws : Laws) where
    -- code is never stuck
    goes_on : {text : List ℕ} {code : Tables} (asked : Asked)
        → IsCodeOf text (build_of asked) code → IsCapacity asked.links
        → IsUnder call asked ex.turns IsStuckOrIdleAt code → ⊥
    goes_on asked of_text met u = elim u.holds [
      | inl is ↦ never_stuck laws asked of_text met u.text u.order u.read ex.turns is.0 is.1 is.2
      | inr is ↦ never_idle laws asked of_text met u.text u.order u.read ex.turns is.0 is.1
    ]

    never : {n : ℕ} {told : List ℕ} → Cause call ex n told → n ≢ STUCK
    never cause e =
        let r = from STUCK (λ file asked. ⊥) (λ e. omega arith)
        (λ file asked given c e.
        let h = run_to STUCK IsStuckOrIdleAt is_stuck (λ a report k m t. run_stuck a report k)
        file asked c e in
        goes_on asked h.of_text (is_met given.worded).links h.holds) cause e in
        r.holds

    cut_short : (file : List ℕ) (asked : Asked)
        → IsRun call.words file asked → Under IsLimitedAt file asked
        → IsCutShort call file asked ex
    cut_short file asked given h = record {
      of_code = h;
      too_few = too_few laws asked h.of_text (is_met given.worded).links h.holds.text
          h.holds.order h.holds.read ex.turns h.holds.holds;
    }

pub exactly : (call : Call) (ex : Execution) → Laws → (n : ℕ) (told : List ℕ)
    → Cause call ex n told → IsExact call ex n
exactly call ex laws n told cause = record {
  too_long = λ s. (
    from call ex TOO_LONG (λ file asked. HasLongFile call file asked ex)
        (λ e. omega arith)
        (λ file asked given c e. file_long call ex file asked c e) cause,
    back call ex TOO_LONG (λ file asked. HasLongFile call file asked ex)
        s.decided
        (λ file asked given c h. was_file_long call ex file asked c s h) cause,
  );
  refused = λ s. (
    from call ex REFUSED (λ file asked. HasNoProgramIn call file (build_of asked))
        (λ e. omega arith)
        (λ file asked given c e. refused_of call file (build_of asked) ex
        (Does call ex file asked) (does_other call ex file asked) c e) cause,
    back call ex REFUSED (λ file asked. HasNoProgramIn call file (build_of asked)) s.decided
        (λ file asked given c h. was_refused_in call file (build_of asked) ex
        (Does call ex file asked) (s.one file) c s.read h) cause,
  );
  unbound = λ s. (
    from call ex UNBOUND (λ file asked. HasUnboundIn call file (build_of asked))
        (λ e. omega arith)
        (λ file asked given c e. unbound_of call file (build_of asked) ex
        (Does call ex file asked) (does_other call ex file asked) c e) cause,
    back call ex UNBOUND (λ file asked. HasUnboundIn call file (build_of asked)) s.decided
        (λ file asked given c h. was_unbound_in call file (build_of asked) ex
        (Does call ex file asked) (s.one file) c s.read h) cause,
  );
  order_refused = λ s. (
    from call ex ORDER_REFUSED
        (λ file asked. HasCodeOf call file (build_of asked) ex (HasBadOrder call asked))
        (λ e. omega arith)
        (λ file asked given c e. file_bad call ex file asked c e) cause,
    back call ex ORDER_REFUSED
        (λ file asked. HasCodeOf call file (build_of asked) ex (HasBadOrder call asked)) s.decided
        (λ file asked given c h. was_file_bad call ex file asked c
        (s.order file asked given) h) cause,
  );
  done = λ s. (
    from call ex DONE (Under call ex IsDoneAt) (λ e. omega arith)
        (λ file asked given c e. run_to call ex DONE IsDoneAt is_done
        (λ a report k m t. run_done a report k) file asked c e) cause,
    back call ex DONE (Under call ex IsDoneAt) s.decided
        (λ file asked given c h. file_was call ex file asked DONE IsDoneAt c
        (s.order file asked given) (λ e. omega arith) told_done h) cause,
  );
  trap = λ s. (
    from call ex TRAPPED (Under call ex IsTrapAt) (λ e. omega arith)
        (λ file asked given c e. run_to call ex TRAPPED IsTrapAt is_trapped
        (λ a report k m t. run_trap a report k) file asked c e) cause,
    back call ex TRAPPED (Under call ex IsTrapAt) s.decided
        (λ file asked given c h. file_was call ex file asked TRAPPED IsTrapAt c
        (s.order file asked given) (λ e. omega arith) told_trap h) cause,
  );
  turn_limit = λ s. (
    from call ex TURN_LIMIT (Under call ex IsLimitedAt) (λ e. omega arith)
        (λ file asked given c e. run_to call ex TURN_LIMIT IsLimitedAt is_limit
        (λ a report k m t. run_limit a report k) file asked c e) cause,
    back call ex TURN_LIMIT (Under call ex IsLimitedAt) s.decided
        (λ file asked given c h. file_was call ex file asked TURN_LIMIT IsLimitedAt c
        (s.order file asked given) (λ e. omega arith) told_limit h) cause,
  );
  too_few = from call ex TURN_LIMIT (λ file asked. IsCutShort call file asked ex)
      (λ e. omega arith)
      (λ file asked given c e. cut_short call ex laws file asked given
      (run_to call ex TURN_LIMIT IsLimitedAt is_limit (λ a report k m t. run_limit a report k)
      file asked c e)) cause;
  never_stuck = never call ex laws cause;
}

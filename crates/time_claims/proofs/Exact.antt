-- When each status comes.
use Rattle.std.proofs.Common.{◌≡◌, ◌≢◌, ◌↔◌, ◌⊎◌, ℕ, ◌<◌, ◌≤◌, Bool, true, false, IsTrue, List, Option, Some, None, Ok, codes, refl, sym, ◌∙◌, ap, subst, inl, inr, arith}
use Rattle.node_form.specs.declared.tables.Tables.{Tables}
use Rattle.grid_meaning.specs.Grid.{processors}
use Rattle.grid_order.specs.Reading.{reading}
use Rattle.grid_runs.specs.Run.{Run, IsLimitedAt}
use Rattle.grid_time.specs.Timed.{IsPastMoves, moves_at}
use Rattle.grid_timetable.specs.Adding.{most_moves}
use Rattle.listing_lines.specs.Listing.{IsBadLine}
use Rattle.node_text.specs.Listing.{IsBadTable, IsListing}
use Rattle.call_claims.specs.Call.{Call}
use Rattle.call_claims.specs.Command.{Asked, TimeTakes}
use Rattle.call_claims.specs.Decided.{IsSettled}
use Rattle.call_claims.specs.Execution.{Execution}
use Rattle.call_claims.specs.declared.status.TheConstants.{DONE, TOO_LONG, TRAPPED, TURN_LIMIT, NO_MEMORY}
use Rattle.call_claims.proofs.OneLemmas.{as_asked}
use Rattle.exec_claims.specs.Cause.{IsTooLong, ListingFileCause, OrderFileCause, PassesCheck, RunCause, run_of}
use Rattle.exec_claims.specs.Cause.OrderCause.{bad_item, ran as run_under}
use Rattle.exec_claims.specs.Cause.TextCause.{unreadable, too_long, work}
use Rattle.exec_claims.specs.Cause.CodeCause.{fails, passes}
use Rattle.exec_claims.specs.Cause.ListingCause.{bad_line, bad_table, listed}
use Rattle.exec_claims.specs.Decided.{HasBadOrder, HasListing, HasLongOrder, HasNoListing, HasPassed, HasRun}
use Rattle.exec_claims.specs.Decided.{IsOrderText}
use Rattle.exec_claims.specs.Decided.{IsDoneAt, IsStuckOrIdleAt, IsTrapAt}
use Rattle.exec_claims.specs.declared.status.TheConstants.{LISTING_REFUSED, ORDER_REFUSED, STUCK, TOO_MANY_MOVES}
use Rattle.exec_claims.proofs.CheckLemmas.{passes_unasked}
use Rattle.exec_claims.proofs.Exact.{file_cause, file_listing, file_refused, run_done, run_limit, run_stuck, run_trap}
use Rattle.exec_claims.proofs.Exact.{told_done, told_limit, told_stuck, told_trap}
use Rattle.exec_claims.proofs.OneCause.{file_one, read_one, tells_one, text_short, texts_same}
use Rattle.exec_claims.proofs.OrderExact.{IsLong, long_from, long_to, one_order, wrong_from, wrong_to_order}
use Rattle.exec_claims.proofs.RunStatus.{IsRunStatus, is_done, is_limit, is_stuck, is_trapped}
use Rattle.time_claims.specs.Cause.{Cause, IsRunEnd, TimeCause, Times, WithFewMoves}
use Rattle.time_claims.specs.Cause.Cause.{no_memory, time}
use Rattle.time_claims.specs.Cause.TimeCause.{not_run, ran, too_many}
use Rattle.time_claims.specs.Decided.{IsExact}
use Rattle.time_claims.proofs.KnownLemmas.{file_known}
use Rattle.time_claims.proofs.RunLemmas.{end_other, not_long, not_unlisted, not_wrong, run_end, runs_same, same_code, with_report}

abbrev LineLaw : Type 0
LineLaw = (bytes : List ℕ) (tables : Tables) (number : ℕ) → IsListing bytes tables
    → IsBadLine bytes number → ⊥

abbrev TableLaw : Type 0
TableLaw = (bytes : List ℕ) (tables : Tables) (number : ℕ) → IsListing bytes tables
    → IsBadTable bytes number → ⊥

abbrev OneLaw : Type 0
OneLaw = (bytes : List ℕ) (one other : Tables) → IsListing bytes one → IsListing bytes other
    → one ≡ other

module _ (call : Call) (ex : Execution) (file : List ℕ) (asked : Asked)
    (plain : asked.checked ≡ false) where
  -- no code is checked
  unasked : {A : Type 0} → IsTrue asked.checked → A
  unasked asks = absurd (let no : false ≡ true = sym plain ∙ asks in cc)

  to_listing : {Holds : Tables → Type 0} → HasPassed call file asked Holds
      → HasListing call file Holds
  to_listing h =
      record { source = h.source; code = h.code; listing = h.listing; holds = h.holds.1 }

  of_listing : {Holds : Tables → Type 0} → HasListing call file Holds
      → HasPassed call file asked Holds
  of_listing h = record {
    source = h.source;
    code = h.code;
    listing = h.listing;
    holds = (passes_unasked asked h.code plain, h.holds);
  }

  abbrev IsLongHere : Type 0
  IsLongHere = IsTooLong call file ⊎ HasListing call file (λ code. HasLongOrder call asked.order)

  long_here : IsLong call ex file asked → IsLongHere
  long_here (inl long) = inl long
  long_here (inr h) = inr (to_listing h)

  of_here : IsLongHere → IsLong call ex file asked
  of_here (inl long) = inl long
  of_here (inr h) = inr (of_listing h)

  -- the cause that `exec` has
  as_exec : {n : ℕ} {told : List ℕ} → TimeCause call file asked ex n told → n ≢ TOO_MANY_MOVES
      → (text : List ℕ) × ListingFileCause call file asked ex n text
  as_exec (not_run c unended) other = (_, c)
  as_exec (ran h) other =
      file_cause call ex file asked h (λ run k report holds. with_report report holds.0)
  as_exec (too_many h) other = absurd (other refl)

  module _ (line : LineLaw) (table : TableLaw) where
    -- 3
    pub long_of : {n : ℕ} {told : List ℕ} → TimeCause call file asked ex n told → n ≡ TOO_LONG
        → IsLongHere
    long_of c e =
        let exec = as_exec c (λ f. omega (arith, e, f)) in
        long_here (long_from call ex file asked exec.1 e)

    pub of_long : OneLaw → {n : ℕ} {told : List ℕ} → TimeCause call file asked ex n told
        → IsSettled call n → IsLongHere → n ≡ TOO_LONG
    of_long one {n = n} (not_run c unended) settled long =
        long_to call ex file asked n settled line table one c settled.read
        (one_order call n settled asked.order) (of_here long)
    of_long one {n = n} (ran h) settled long =
        absurd (not_long call ex file asked n settled h (of_here long))
    of_long one {n = n} (too_many h) settled long =
        absurd (not_long call ex file asked n settled h (of_here long))

    -- 11
    pub unlisted_of : {n : ℕ} {told : List ℕ} → TimeCause call file asked ex n told
        → n ≡ LISTING_REFUSED → HasNoListing call file
    unlisted_of c e =
        let exec = as_exec c (λ f. omega (arith, e, f)) in
        file_listing call ex file asked line table exec.1 e

    pub of_unlisted : {n : ℕ} {told : List ℕ} → TimeCause call file asked ex n told
        → IsSettled call n → HasNoListing call file → n ≡ LISTING_REFUSED
    of_unlisted {n = n} (not_run c unended) settled none =
        file_refused call ex file asked n settled none c settled.read
    of_unlisted {n = n} (ran h) settled none =
        absurd (not_unlisted call ex file asked n settled h none)
    of_unlisted {n = n} (too_many h) settled none =
        absurd (not_unlisted call ex file asked n settled h none)

    -- 6
    pub wrong_of : {n : ℕ} {told : List ℕ} → TimeCause call file asked ex n told
        → n ≡ ORDER_REFUSED → HasListing call file (HasBadOrder call asked)
    wrong_of c e =
        let exec = as_exec c (λ f. omega (arith, e, f)) in
        to_listing (wrong_from call ex file asked exec.1 e)

    pub of_wrong : OneLaw → {n : ℕ} {told : List ℕ} → TimeCause call file asked ex n told
        → IsSettled call n → HasListing call file (HasBadOrder call asked) → n ≡ ORDER_REFUSED
    of_wrong one {n = n} (not_run c unended) settled wrong =
        wrong_to_order call ex file asked n settled line table one c settled.read
        (one_order call n settled asked.order) (of_listing wrong)
    of_wrong one {n = n} (ran h) settled wrong =
        absurd (not_wrong call ex file asked n settled one h wrong)
    of_wrong one {n = n} (too_many h) settled wrong =
        absurd (not_wrong call ex file asked n settled one h wrong)

    -- 0, 7, 8 and 12
    module _ (s : ℕ) (Holds : Run → ℕ → Type 0) (ends : IsRunEnd s) where
      pub ended_of : ((run : Run) (k n : ℕ) (told : List ℕ) → RunCause run false k n told → n ≡ s
          → Holds run k) → {n : ℕ} {told : List ℕ} → TimeCause call file asked ex n told → n ≡ s
          → HasRun call file asked ex (WithFewMoves Holds)
      ended_of found (not_run c unended) e = absurd (unended (subst IsRunEnd (sym e) ends))
      ended_of found (ran h) e = record {
        source = h.source;
        code = h.code;
        listing = h.listing;
        made = h.made;
        sound = h.sound;
        text = h.text;
        order_text = h.order_text;
        order = h.order;
        read = h.read;
        goes_on = h.goes_on;
        holds = (found (run_of h.code asked h.order) ex.turns _ _ h.holds.0 e, h.holds.1);
      }
      ended_of found (too_many h) e = absurd (end_other ends (sym e))

      pub of_ended : IsRunStatus s
          → ((run : Run) (k : ℕ) (report : Bool) → Holds run k
          → (told : List ℕ) × RunCause run report k s told)
          → {n : ℕ} {told : List ℕ} → TimeCause call file asked ex n told → IsSettled call n
          → HasRun call file asked ex (WithFewMoves Holds) → n ≡ s
      of_ended status told_by {n = n} (not_run c unended) settled r =
          file_one call (tells_one call n settled) asked ex line table file c
          (file_cause call ex file asked r (λ run k report holds. told_by run k report holds.0)).1
          settled.read status.unreadable
      of_ended status told_by {n = n} (ran h) settled r =
          file_one call (tells_one call n settled) asked ex line table file
          (file_cause call ex file asked h (λ run k report holds. with_report report holds.0)).1
          (file_cause call ex file asked r (λ run k report holds. told_by run k report holds.0)).1
          settled.read status.unreadable
      of_ended status told_by {n = n} (too_many h) settled r =
          let few : moves_at (run_of h.code asked h.order) ex.turns ≤ most_moves =
          subst (λ run. moves_at run ex.turns ≤ most_moves)
          (sym (runs_same call ex file asked n settled h r)) r.holds.1 in
          absurd (omega (arith, few, h.holds.past))

    -- 15
    order_no_run : (named : Option (List ℕ)) (code : Tables) (order text : List ℕ)
        → IsOrderText call named text → reading (processors code) text ≡ Ok order
        → (n : ℕ) (told : List ℕ) → IsSettled call n
        → OrderFileCause call code asked ex.turns named n told → ¬ IsRunEnd n → ⊥
    order_no_run None code order text is read n told settled (bad_item at e z) unended =
        read_one at order e (subst (λ t. reading (processors code) t ≡ Ok order) is read)
    order_no_run None code order text is read n told settled (run_under other e goes c) unended = unended (run_end c)
    order_no_run (Some name) code order text is read n told settled (unreadable may end) unended =
        settled.read refl
    order_no_run (Some name) code order text is read n told settled (too_long long end) unended =
        text_short call name n settled long is.0
    order_no_run (Some name) code order text is read n told settled (work source (bad_item at e z)) unended =
        read_one at order e (subst (λ t. reading (processors code) t ≡ Ok order)
        (sym is.1 ∙ texts_same call name n settled is.0 source) read)
    order_no_run (Some name) code order text is read n told settled (work source (run_under other e goes c)) unended =
        unended (run_end c)

    -- where no run began there was none
    no_run : {P : Run → ℕ → Type 0} (r : HasRun call file asked ex P) {n : ℕ} {told : List ℕ}
        → IsSettled call n → ListingFileCause call file asked ex n told → ¬ IsRunEnd n → ⊥
    no_run r settled (unreadable may end) unended = settled.read refl
    no_run r {n = n} settled (too_long long end) unended =
        text_short call file n settled long r.source
    no_run r {n = n} settled (work source (bad_line at e none)) unended =
        line source.text r.code at
        (subst (λ t. IsListing t r.code) (texts_same call file n settled r.source source) r.listing) e
    no_run r {n = n} settled (work source (bad_table at e none)) unended =
        table source.text r.code at
        (subst (λ t. IsListing t r.code) (texts_same call file n settled r.source source) r.listing) e
    no_run r settled (work source (listed code is made (fails asks z f))) unended = unasked asks
    no_run r {n = n} {told = told} settled (work source (listed code is made (passes passed c))) unended =
        order_no_run asked.order code r.order r.text r.order_text
        (subst (λ t. reading (processors t) r.text ≡ Ok r.order)
        (same_code ex.code r.code code r.made made) r.read) n told settled c unended

    pub past_of : {n : ℕ} {told : List ℕ} → TimeCause call file asked ex n told
        → IsSettled call n → n ≡ TOO_MANY_MOVES → HasRun call file asked ex IsPastMoves
    past_of (not_run c unended) settled e = absurd (file_known call ex file asked c e)
    past_of (ran h) settled e = absurd (end_other (run_end h.holds.0) e)
    past_of (too_many h) settled e = h

    pub of_past : {n : ℕ} {told : List ℕ} → TimeCause call file asked ex n told
        → IsSettled call n → HasRun call file asked ex IsPastMoves → n ≡ TOO_MANY_MOVES
    of_past (not_run c unended) settled r = absurd (no_run r settled c unended)
    of_past {n = n} (ran h) settled r =
        let past : most_moves < moves_at (run_of h.code asked h.order) ex.turns =
        subst (λ run. most_moves < moves_at run ex.turns)
        (runs_same call ex file asked n settled r h) r.holds.past in
        absurd (omega (arith, past, h.holds.1))
    of_past (too_many h) settled r = refl

-- ---- any call
module _ (call : Call) (ex : Execution) (line : LineLaw) (table : TableLaw) (one : OneLaw) where
  -- a status by what holds of the file and of what is asked for
  exactly : (s : ℕ) (Holds : List ℕ → Asked → Type 0) → s ≢ NO_MEMORY
      → ((file : List ℕ) (asked : Asked) (n : ℕ) (told : List ℕ) → asked.checked ≡ false
      → IsSettled call n → TimeCause call file asked ex n told → n ≡ s → Holds file asked)
      → ((file : List ℕ) (asked : Asked) (n : ℕ) (told : List ℕ) → asked.checked ≡ false
      → IsSettled call n → TimeCause call file asked ex n told → Holds file asked → n ≡ s)
      → {n : ℕ} {told : List ℕ} → Cause call ex n told → IsSettled call n
      → (n ≡ s) ↔ Times call Holds
  exactly s Holds other from to no_memory settled =
      (λ e. absurd (settled.decided.memory refl), λ asks. absurd (settled.decided.memory refl))
  exactly s Holds other from to {n = n} {told = told} (time is) settled = (
    λ e. record {
      file = is.file;
      asked = is.asked;
      given = is.given;
      holds = from is.file is.asked n told is.given.takes.no_checked settled is.holds e;
    },
    λ asks. to is.file is.asked n told is.given.takes.no_checked settled is.holds
        (as_asked (codes "time") TimeTakes call.words is asks),
  )

  pub is_exact : {n : ℕ} {told : List ℕ} → Cause call ex n told → IsExact call ex n
  is_exact c = record {
    too_long = exactly TOO_LONG _ (λ e. omega arith)
        (λ file asked n told p s t e. long_of call ex file asked p line table t e)
        (λ file asked n told p s t h. of_long call ex file asked p line table one t s h) c;
    order_refused = exactly ORDER_REFUSED _ (λ e. omega arith)
        (λ file asked n told p s t e. wrong_of call ex file asked p line table t e)
        (λ file asked n told p s t h. of_wrong call ex file asked p line table one t s h) c;
    refused = exactly LISTING_REFUSED _ (λ e. omega arith)
        (λ file asked n told p s t e. unlisted_of call ex file asked p line table t e)
        (λ file asked n told p s t h. of_unlisted call ex file asked p line table t s h) c;
    done = exactly DONE _ (λ e. omega arith)
        (λ file asked n told p s t e. ended_of call ex file asked p line table DONE IsDoneAt (inl refl)
        (λ run k m u cause same. run_done run false k cause same) t e)
        (λ file asked n told p s t h. of_ended call ex file asked p line table DONE IsDoneAt (inl refl)
        is_done told_done t s h) c;
    trap = exactly TRAPPED _ (λ e. omega arith)
        (λ file asked n told p s t e. ended_of call ex file asked p line table TRAPPED IsTrapAt (inr (inl refl))
        (λ run k m u cause same. run_trap run false k cause same) t e)
        (λ file asked n told p s t h. of_ended call ex file asked p line table TRAPPED IsTrapAt (inr (inl refl))
        is_trapped told_trap t s h) c;
    turn_limit = exactly TURN_LIMIT _ (λ e. omega arith)
        (λ file asked n told p s t e. ended_of call ex file asked p line table TURN_LIMIT IsLimitedAt
        (inr (inr (inl refl))) (λ run k m u cause same. run_limit run false k cause same) t e)
        (λ file asked n told p s t h. of_ended call ex file asked p line table TURN_LIMIT IsLimitedAt
        (inr (inr (inl refl))) is_limit told_limit t s h) c;
    stuck = exactly STUCK _ (λ e. omega arith)
        (λ file asked n told p s t e. ended_of call ex file asked p line table STUCK IsStuckOrIdleAt
        (inr (inr (inr refl))) (λ run k m u cause same. run_stuck run false k cause same) t e)
        (λ file asked n told p s t h. of_ended call ex file asked p line table STUCK IsStuckOrIdleAt
        (inr (inr (inr refl))) is_stuck told_stuck t s h) c;
    too_many_moves = exactly TOO_MANY_MOVES _ (λ e. omega arith)
        (λ file asked n told p s t e. past_of call ex file asked p line table t s e)
        (λ file asked n told p s t h. of_past call ex file asked p line table t s h) c;
  }

-- When each status comes.
use Rattle.std.proofs.Common.{◌≡◌, ◌≢◌, ◌↔◌, ℕ, Bool, List, [], Option, Some, None, codes}
use Rattle.std.proofs.Common.{refl, sym, subst, inl, inr, arith}
use Rattle.node_form.specs.declared.tables.Tables.{Tables}
use Rattle.listing_lines.specs.Listing.{IsBadLine}
use Rattle.node_text.specs.Listing.{IsBadTable, IsListing}
use Rattle.call_claims.specs.Call.{Call}
use Rattle.call_claims.specs.Decided.{IsSettled}
use Rattle.call_claims.specs.Execution.{Execution}
use Rattle.call_claims.specs.declared.status.TheConstants.{DONE, UNREADABLE, TOO_LONG, TRAPPED}
use Rattle.call_claims.specs.declared.status.TheConstants.{TURN_LIMIT}
use Rattle.call_claims.specs.Command.{Asked, ExecTakes}
use Rattle.call_claims.proofs.OneLemmas.{as_asked}
use Rattle.grid_runs.specs.Run.{Run, GoesOnTo, IsLimitedAt}
use Rattle.exec_claims.specs.Cause.{RunCause, OrderCause, OrderFileCause, CheckFails, CodeCause, ListingCause}
use Rattle.exec_claims.specs.Cause.{ListedCause, ListingFileCause, Cause, Source, run_of}
use Rattle.exec_claims.specs.Cause.RunCause.{done, trap, turn_limit, stuck, idle}
use Rattle.exec_claims.specs.Cause.OrderCause.{bad_item, ran}
use Rattle.exec_claims.specs.Cause.TextCause.{unreadable, too_long, work}
use Rattle.exec_claims.specs.Cause.CheckFails.{unsound, too_large}
use Rattle.exec_claims.specs.Cause.CodeCause.{fails, passes}
use Rattle.exec_claims.specs.Cause.ListingCause.{bad_line, bad_table, listed}
use Rattle.exec_claims.specs.Cause.Cause.{no_memory, exec}
use Rattle.exec_claims.specs.Decided.{IsOrderText, HasRun, RunsTo, IsDoneAt, IsTrapAt}
use Rattle.exec_claims.specs.Decided.{IsStuckOrIdleAt, HasNoListing, ExecsNoListing}
use Rattle.exec_claims.specs.declared.status.TheConstants.{ORDER_REFUSED, LISTING_REFUSED, STUCK}
use Rattle.exec_claims.proofs.RunStatus.{IsRunStatus, is_done, is_limit, is_stuck, is_trapped}
use Rattle.exec_claims.proofs.CheckLemmas.{fails_other}
use Rattle.exec_claims.proofs.OneCause.{cause_one, text_short, texts_same}
use Rattle.grid_order.specs.Reading.{reading}
use Rattle.grid_meaning.specs.Grid.{processors}
use Rattle.std.specs.Prelude.{Ok}

-- ---- from the cause to how the run ended
module _ (run : Run) (report : Bool) (k : ℕ) where
  pub run_done : {n : ℕ} {told : List ℕ} → RunCause run report k n told → n ≡ DONE → IsDoneAt run k
  run_done (done e) h = e
  run_done (trap kind line e) h = absurd (omega arith)
  run_done (turn_limit e) h = absurd (omega arith)
  run_done (stuck p kind e) h = absurd (omega arith)
  run_done (idle p e) h = absurd (omega arith)

  pub run_trap : {n : ℕ} {told : List ℕ} → RunCause run report k n told → n ≡ TRAPPED → IsTrapAt run k
  run_trap (done e) h = absurd (omega arith)
  run_trap (trap kind line e) h = (kind, line, e)
  run_trap (turn_limit e) h = absurd (omega arith)
  run_trap (stuck p kind e) h = absurd (omega arith)
  run_trap (idle p e) h = absurd (omega arith)

  pub run_limit : {n : ℕ} {told : List ℕ} → RunCause run report k n told → n ≡ TURN_LIMIT
      → IsLimitedAt run k
  run_limit (done e) h = absurd (omega arith)
  run_limit (trap kind line e) h = absurd (omega arith)
  run_limit (turn_limit e) h = e
  run_limit (stuck p kind e) h = absurd (omega arith)
  run_limit (idle p e) h = absurd (omega arith)

  pub run_stuck : {n : ℕ} {told : List ℕ} → RunCause run report k n told → n ≡ STUCK
      → IsStuckOrIdleAt run k
  run_stuck (done e) h = absurd (omega arith)
  run_stuck (trap kind line e) h = absurd (omega arith)
  run_stuck (turn_limit e) h = absurd (omega arith)
  run_stuck (stuck p kind e) h = inl (p, kind, e)
  run_stuck (idle p e) h = inr (p, e)

  run_other : {n : ℕ} {told : List ℕ} → RunCause run report k n told
      → n ≢ LISTING_REFUSED
  run_other (done e) = λ h. omega arith
  run_other (trap kind line e) = λ h. omega arith
  run_other (turn_limit e) = λ h. omega arith
  run_other (stuck p kind e) = λ h. omega arith
  run_other (idle p e) = λ h. omega arith

-- ---- from how the run ended to a cause
pub told_done : (run : Run) (k : ℕ) (report : Bool) → IsDoneAt run k → (told : List ℕ) × RunCause run report k DONE told
told_done run k report e = (_, done e)

pub told_trap : (run : Run) (k : ℕ) (report : Bool) → IsTrapAt run k → (told : List ℕ) × RunCause run report k TRAPPED told
told_trap run k report e = (_, trap e.0 e.1 e.2)

pub told_limit : (run : Run) (k : ℕ) (report : Bool) → IsLimitedAt run k → (told : List ℕ) × RunCause run report k TURN_LIMIT told
told_limit run k report e = (_, turn_limit e)

pub told_stuck : (run : Run) (k : ℕ) (report : Bool) → IsStuckOrIdleAt run k → (told : List ℕ) × RunCause run report k STUCK told
told_stuck run k report (inl e) = (_, stuck e.0 e.1 e.2)
told_stuck run k report (inr e) = (_, idle e.0 e.1)

-- ---- orders
pub record Ordered (code : Tables) (asked : Asked) (turns : ℕ) (text : List ℕ) (n : ℕ) (told : List ℕ)
    : Type 0 where
  pub order : List ℕ
  pub read : reading (processors code) text ≡ Ok order
  pub goes_on : GoesOnTo (run_of code asked order) turns
  pub cause : RunCause (run_of code asked order) asked.report turns n told

module _ (call : Call) (code : Tables) (asked : Asked) (turns : ℕ) where
  order_run : (text : List ℕ) {n : ℕ} {told : List ℕ} → OrderCause code asked turns text n told
      → n ≢ ORDER_REFUSED → Ordered code asked turns text n told
  order_run text (bad_item at e z) a = absurd (a refl)
  order_run text (ran order e goes c) a =
      record { order = order; read = e; goes_on = goes; cause = c }

  pub order_file_run : (file : Option (List ℕ)) {n : ℕ} {told : List ℕ}
      → OrderFileCause call code asked turns file n told → n ≢ ORDER_REFUSED → n ≢ UNREADABLE
      → n ≢ TOO_LONG
      → (text : List ℕ) × IsOrderText call file text × Ordered code asked turns text n told
  order_file_run None c a b d = ([], refl, order_run [] c a)
  order_file_run (Some file) (unreadable may ends) a b d = absurd (b refl)
  order_file_run (Some file) (too_long long ends) a b d = absurd (d refl)
  order_file_run (Some file) (work source w) a b d =
      (source.text, (source, refl), order_run source.text w a)

  pub order_file_cause : (file : Option (List ℕ)) (text : List ℕ) {n : ℕ} {told : List ℕ}
      → IsOrderText call file text → OrderCause code asked turns text n told
      → OrderFileCause call code asked turns file n told
  order_file_cause None text {n = n} {told = told} is c =
      subst (λ t. OrderCause code asked turns t n told) is c
  order_file_cause (Some file) text {n = n} {told = told} is c =
      work is.0 (subst (λ t. OrderCause code asked turns t n told) (sym is.1) c)

  order_other : {text : List ℕ} {n : ℕ} {told : List ℕ} → OrderCause code asked turns text n told
      → n ≢ LISTING_REFUSED
  order_other (bad_item at e z) = λ h. omega arith
  order_other (ran order e goes c) = run_other (run_of code asked order) asked.report turns c

  order_file_other : (file : Option (List ℕ)) (n : ℕ) (told : List ℕ)
      → OrderFileCause call code asked turns file n told → n ≢ LISTING_REFUSED
  order_file_other None n told c = order_other c
  order_file_other (Some file) n told (unreadable may ends) = λ h. omega arith
  order_file_other (Some file) n told (too_long long ends) = λ h. omega arith
  order_file_other (Some file) n told (work source w) = order_other w

-- ---- files of listings
module _ (call : Call) (ex : Execution) (file : List ℕ) (asked : Asked) where
  not_run : {code : Tables} {n : ℕ} {told : List ℕ} → CheckFails code n told → IsRunStatus n → ⊥
  not_run (unsound at f) s = s.sound refl
  not_run (too_large f) s = s.small refl

  listing_run : (source : Source call file) {n : ℕ} {told : List ℕ}
      → ListingCause ex (CodeCause call asked ex.turns) source.text n told → IsRunStatus n
      → HasRun call file asked ex (λ run k. RunCause run asked.report k n told)
  listing_run source (bad_line line e z) s = absurd (s.listing refl)
  listing_run source (bad_table line e z) s = absurd (s.listing refl)
  listing_run source (listed code is made (fails asks z f)) s = absurd (not_run f s)
  listing_run source (listed code is made (passes passed c)) s =
      let o = order_file_run call code asked ex.turns asked.order c s.order s.unreadable s.too_long in
      record {
        source = source;
        code = code;
        listing = is;
        made = made;
        sound = passed;
        text = o.0;
        order_text = o.1;
        order = o.2.order;
        read = o.2.read;
        goes_on = o.2.goes_on;
        holds = o.2.cause;
      }

  file_run : {n : ℕ} {told : List ℕ} → ListingFileCause call file asked ex n told → IsRunStatus n
      → HasRun call file asked ex (λ run k. RunCause run asked.report k n told)
  file_run (unreadable may ends) s = absurd (s.unreadable refl)
  file_run (too_long long ends) s = absurd (s.too_long refl)
  file_run (work source w) s = listing_run source w s

  pub file_cause : {n : ℕ} {Holds : Run → ℕ → Type 0} → HasRun call file asked ex Holds
      → ((run : Run) (k : ℕ) (report : Bool) → Holds run k → (told : List ℕ) × RunCause run report k n told)
      → (told : List ℕ) × ListingFileCause call file asked ex n told
  file_cause h f =
      let c = f (run_of h.code asked h.order) ex.turns asked.report h.holds in (
        c.0,
        work h.source (listed h.code h.listing h.made (passes h.sound
            (order_file_cause call h.code asked ex.turns asked.order h.text h.order_text
            (ran h.order h.read h.goes_on c.1)))),
      )

-- ---- texts that are no listing
-- work on code has another status
pub record IsUnrefused (Works : Tables → ℕ → List ℕ → Type 0) : Type 0 where
  pub other : (code : Tables) (n : ℕ) (told : List ℕ) → Works code n told → n ≢ LISTING_REFUSED

pub code_other : (call : Call) (asked : Asked) (turns : ℕ) → IsUnrefused (CodeCause call asked turns)
code_other call asked turns = record { other = other }
  where
    other : (code : Tables) (n : ℕ) (told : List ℕ) → CodeCause call asked turns code n told
        → n ≢ LISTING_REFUSED
    other code n told (fails asks z f) = (fails_other f).listing
    other code n told (passes passed c) =
        order_file_other call code asked turns asked.order n told c

module _ (call : Call) (ex : Execution) (file : List ℕ) (Works : Tables → ℕ → List ℕ → Type 0)
  where
    module _ (works : IsUnrefused Works)
        (line_law : (bytes : List ℕ) (tables : Tables) (number : ℕ) → IsListing bytes tables
        → IsBadLine bytes number → ⊥)
        (table_law : (bytes : List ℕ) (tables : Tables) (number : ℕ) → IsListing bytes tables
        → IsBadTable bytes number → ⊥) where
      no_code : (text : List ℕ) {n : ℕ} {told : List ℕ} → ListingCause ex Works text n told
          → n ≡ LISTING_REFUSED → (code : Tables) → ¬ IsListing text code
      no_code text (bad_line line e z) h = λ code is. line_law text code line is e
      no_code text (bad_table line e z) h = λ code is. table_law text code line is e
      no_code text (listed code is made c) h = absurd (works.other code _ _ c h)

      pub listed_none : {n : ℕ} {told : List ℕ} → ListedCause call file ex Works n told
          → n ≡ LISTING_REFUSED → HasNoListing call file
      listed_none (unreadable may ends) h = absurd (omega arith)
      listed_none (too_long long ends) h = absurd (omega arith)
      listed_none (work source w) h = (source, no_code source.text w h)

    pub listed_refused : {n : ℕ} {told : List ℕ} (m : ℕ) → IsSettled call m → HasNoListing call file
        → ListedCause call file ex Works n told → n ≢ UNREADABLE → n ≡ LISTING_REFUSED
    listed_refused m settled none (unreadable may ends) a = absurd (a refl)
    listed_refused m settled none (too_long long ends) a =
        absurd (text_short call file m settled long none.0)
    listed_refused m settled none (work source (bad_line line e z)) a = refl
    listed_refused m settled none (work source (bad_table line e z)) a = refl
    listed_refused m settled none (work source (listed code is made c)) a =
        absurd (none.1 code (subst (λ t. IsListing t code)
        (texts_same call file m settled source none.0) is))

module _ (call : Call) (ex : Execution) (file : List ℕ) (asked : Asked) where
  pub file_listing : ((bytes : List ℕ) (tables : Tables) (number : ℕ) → IsListing bytes tables
      → IsBadLine bytes number → ⊥)
      → ((bytes : List ℕ) (tables : Tables) (number : ℕ) → IsListing bytes tables
      → IsBadTable bytes number → ⊥)
      → {n : ℕ} {told : List ℕ} → ListingFileCause call file asked ex n told
      → n ≡ LISTING_REFUSED → HasNoListing call file
  file_listing line table c h =
      listed_none call ex file (CodeCause call asked ex.turns) (code_other call asked ex.turns) line
      table c h

  pub file_refused : {n : ℕ} {told : List ℕ} (m : ℕ) → IsSettled call m → HasNoListing call file
      → ListingFileCause call file asked ex n told → n ≢ UNREADABLE → n ≡ LISTING_REFUSED
  file_refused m settled none c a =
      listed_refused call ex file (CodeCause call asked ex.turns) m settled none c a

-- ---- any call
module _ (call : Call) (ex : Execution) (n : ℕ) (told : List ℕ) where
  module _ (line : (bytes : List ℕ) (tables : Tables) (number : ℕ) → IsListing bytes tables
      → IsBadLine bytes number → ⊥)
      (table : (bytes : List ℕ) (tables : Tables) (number : ℕ) → IsListing bytes tables
      → IsBadTable bytes number → ⊥) where
    listing_from : {m : ℕ} {t : List ℕ} → Cause call ex m t → m ≡ LISTING_REFUSED → ExecsNoListing call
    listing_from no_memory e = absurd (omega arith)
    listing_from (exec is) e = record {
      file = is.file;
      asked = is.asked;
      given = is.given;
      holds = file_listing call ex is.file is.asked line table is.holds e;
    }

    listing_to : {m : ℕ} {t : List ℕ} → Cause call ex m t → IsSettled call m → ExecsNoListing call
        → m ≡ LISTING_REFUSED
    listing_to no_memory settled r = absurd (settled.decided.memory refl)
    listing_to {m = m} (exec is) settled r =
        file_refused call ex is.file is.asked m settled
        (as_asked (codes "exec") ExecTakes call.words is r) is.holds settled.read

    pub listing_exactly : Cause call ex n told → IsSettled call n
        → (n ≡ LISTING_REFUSED) ↔ ExecsNoListing call
    listing_exactly c settled = (listing_from c, listing_to c settled)

    -- a status of runs
    run_from : (s : ℕ) (Holds : Run → ℕ → Type 0) → IsRunStatus s
        → ((run : Run) (report : Bool) (k m : ℕ) (t : List ℕ) → RunCause run report k m t
        → m ≡ s → Holds run k)
        → {m : ℕ} {t : List ℕ} → Cause call ex m t → m ≡ s → RunsTo call ex Holds
    run_from s Holds is_run f no_memory e = absurd (is_run.memory (sym e))
    run_from s Holds is_run f (exec is) e =
        let h = file_run call ex is.file is.asked is.holds (subst IsRunStatus (sym e) is_run) in
        record {
          file = is.file;
          asked = is.asked;
          given = is.given;
          holds = record {
            source = h.source;
            code = h.code;
            listing = h.listing;
            made = h.made;
            sound = h.sound;
            text = h.text;
            order_text = h.order_text;
            order = h.order;
            read = h.read;
            goes_on = h.goes_on;
            holds = f (run_of h.code is.asked h.order) is.asked.report ex.turns _ _ h.holds e;
          };
        }

    run_to : (s : ℕ) (Holds : Run → ℕ → Type 0) → IsRunStatus s
        → ((run : Run) (k : ℕ) (report : Bool) → Holds run k → (t : List ℕ) × RunCause run report k s t)
        → Cause call ex n told → IsSettled call n → RunsTo call ex Holds → n ≡ s
    run_to s Holds is_run f c settled r =
        let found = file_cause call ex r.file r.asked r.holds f in
        let also : IsSettled call s = record {
          decided = record { put = is_run.put; memory = is_run.memory };
          read = is_run.unreadable;
          one = settled.one;
        } in
        cause_one call ex n s told found.0 line table c
        (exec (record { file = r.file; asked = r.asked; given = r.given; holds = found.1 })) settled
        also

    pub done_exactly : Cause call ex n told → IsSettled call n → (n ≡ DONE) ↔ RunsTo call ex IsDoneAt
    done_exactly c settled =
        (run_from DONE IsDoneAt is_done (λ run report k m t. run_done run report k) c, run_to DONE IsDoneAt is_done told_done c settled)

    pub trap_exactly : Cause call ex n told → IsSettled call n → (n ≡ TRAPPED) ↔ RunsTo call ex IsTrapAt
    trap_exactly c settled =
        (run_from TRAPPED IsTrapAt is_trapped (λ run report k m t. run_trap run report k) c, run_to TRAPPED IsTrapAt is_trapped told_trap c settled)

    pub limit_exactly : Cause call ex n told → IsSettled call n
        → (n ≡ TURN_LIMIT) ↔ RunsTo call ex IsLimitedAt
    limit_exactly c settled =
        (run_from TURN_LIMIT IsLimitedAt is_limit (λ run report k m t. run_limit run report k) c, run_to TURN_LIMIT IsLimitedAt is_limit told_limit c settled)

    pub stuck_exactly : Cause call ex n told → IsSettled call n
        → (n ≡ STUCK) ↔ RunsTo call ex IsStuckOrIdleAt
    stuck_exactly c settled = (
      run_from STUCK IsStuckOrIdleAt is_stuck (λ run report k m t. run_stuck run report k) c,
      run_to STUCK IsStuckOrIdleAt is_stuck told_stuck c settled,
    )

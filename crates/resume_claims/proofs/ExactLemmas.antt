-- When each status of `resume` comes.
use Rattle.std.proofs.Common.{◌≡◌, ◌≢◌, ◌⊎◌, ◌↔◌, ℕ, ◌+◌, List, [], length, Option, Some, None, Ok, Err, codes}
use Rattle.std.proofs.Common.{refl, sym, ◌∙◌, ap, subst, inl, inr, arith}
use Rattle.std.specs.Prelude.{false}
use Rattle.node_form.specs.declared.tables.Tables.{Tables}
use Rattle.grid_meaning.specs.Grid.{Grid, processors}
use Rattle.grid_order.specs.Reading.{reading}
use Rattle.grid_runs.specs.Run.{Run, IsLimitedAt}
use Rattle.saved_runs.specs.of_grid_save.Saved.{IsSaved}
use Rattle.exec_claims.specs.of_call_claims.Call.{Call}
use Rattle.exec_claims.specs.of_call_claims.Command.{Asked, ResumeTakes}
use Rattle.exec_claims.specs.of_call_claims.Decided.{IsSettled}
use Rattle.exec_claims.specs.of_call_claims.Execution.{Execution}
use Rattle.exec_claims.specs.of_call_claims.declared.status.TheConstants.{DONE, TOO_LONG, TRAPPED}
use Rattle.exec_claims.specs.of_call_claims.declared.status.TheConstants.{TURN_LIMIT, UNREADABLE}
use Rattle.call_claims.proofs.OneLemmas.{as_asked}
use Rattle.exec_claims.specs.Cause.{IsTooLong as IsTooLongOrder, RunCause, Source as OrderSource, TextCause}
use Rattle.exec_claims.specs.Cause.TextCause.{unreadable as no_text, too_long as long_text, work as of_text}
use Rattle.exec_claims.specs.Decided.{HasBadOrder, HasLongOrder, IsDoneAt, IsOrderText, IsStuckOrIdleAt, IsTrapAt}
use Rattle.exec_claims.specs.declared.status.TheConstants.{ORDER_REFUSED, STUCK}
use Rattle.exec_claims.proofs.Exact.{run_done, run_limit, run_stuck, run_trap, told_done, told_limit, told_stuck, told_trap}
use Rattle.exec_claims.proofs.OneCause.{not_long, read_one, run_one, same_order, same_text}
use Rattle.exec_claims.proofs.RunStatus.{IsRunStatus, is_done, is_limit, is_stuck, is_trapped}
use Rattle.resume_claims.specs.Cause.{Cause, GridCause, GridFileCause, IsTooLong, Onward, OnwardCause, ResumeCause}
use Rattle.resume_claims.specs.Cause.{Resumes, SavedCause, SavesNone, Source, onward_run}
use Rattle.resume_claims.specs.Cause.GridCause.{bad_item, ran}
use Rattle.resume_claims.specs.Cause.SavedCause.{refused, saved}
use Rattle.resume_claims.specs.Cause.ResumeCause.{unreadable, too_long, work}
use Rattle.resume_claims.specs.Cause.Cause.{no_memory, resume}
use Rattle.resume_claims.specs.Decided.{HasGone, HasSaved, IsExact, ResumesBadOrder, ResumesNone, ResumesRun, ResumesTooLong}
use Rattle.exec_claims.specs.declared.status.TheConstants.{SAVE_REFUSED}
use Rattle.resume_claims.proofs.OnwardLemmas.{IsOneGrid}

-- ---- statuses of runs
-- how a run ended has none but these
data IsEnd (n : ℕ) : Type 0 where
  end_done : n ≡ DONE → IsEnd n
  end_trap : n ≡ TRAPPED → IsEnd n
  end_limit : n ≡ TURN_LIMIT → IsEnd n
  end_stuck : n ≡ STUCK → IsEnd n

run_end : {run : Run} {k n : ℕ} {told : List ℕ} → RunCause run false k n told → IsEnd n
run_end (RunCause.done e) = end_done refl
run_end (RunCause.trap kind line e) = end_trap refl
run_end (RunCause.turn_limit e) = end_limit refl
run_end (RunCause.stuck p kind e) = end_stuck refl
run_end (RunCause.idle p e) = end_stuck refl

record IsNoEnd (n : ℕ) : Type 0 where
  done : n ≢ DONE
  trap : n ≢ TRAPPED
  limit : n ≢ TURN_LIMIT
  stuck : n ≢ STUCK

never : (n : ℕ) → IsNoEnd n → IsEnd n → ⊥
never n apart (end_done e) = apart.done e
never n apart (end_trap e) = apart.trap e
never n apart (end_limit e) = apart.limit e
never n apart (end_stuck e) = apart.stuck e

no_long : IsNoEnd TOO_LONG
no_long = record { done = λ e. omega (arith, e); trap = λ e. omega (arith, e); limit = λ e. omega (arith, e); stuck = λ e. omega (arith, e) }

no_order : IsNoEnd ORDER_REFUSED
no_order = record { done = λ e. omega (arith, e); trap = λ e. omega (arith, e); limit = λ e. omega (arith, e); stuck = λ e. omega (arith, e) }

no_save : IsNoEnd SAVE_REFUSED
no_save = record { done = λ e. omega (arith, e); trap = λ e. omega (arith, e); limit = λ e. omega (arith, e); stuck = λ e. omega (arith, e) }

record IsOther (n : ℕ) : Type 0 where
  run : IsRunStatus n
  save : n ≢ SAVE_REFUSED

-- ---- the order
module _ (call : Call) (code : Tables) (grid : Grid) (asked : Asked) (turns : ℕ) where
  OnwardRun : List ℕ → ℕ → Type 0
  OnwardRun order n = Onward (onward_run code grid asked order) turns (λ run k. (told : List ℕ) × RunCause run false k n told)

  record Ordered (n : ℕ) : Type 0 where
    text : List ℕ
    order_text : IsOrderText call asked.order text
    order : List ℕ
    read : reading (processors code) text ≡ Ok order
    onward : Onward (onward_run code grid asked order) turns (λ run k. (told : List ℕ) × RunCause run false k n told)

  onward_of : (order : List ℕ) {n : ℕ} {told : List ℕ}
      → Onward (onward_run code grid asked order) turns (λ run k. OnwardCause run asked.report k n told)
      → Onward (onward_run code grid asked order) turns (λ run k. (t : List ℕ) × RunCause run false k n t)
  onward_of order on = record {
    given = on.given;
    counted = on.counted;
    goes_on = on.goes_on;
    holds = (on.holds.text, on.holds.cause);
  }

  -- a status of a run
  ordered_text : (text : List ℕ) {n : ℕ} {told : List ℕ} → IsOrderText call asked.order text
      → GridCause code grid asked turns text n told → IsRunStatus n → Ordered n
  ordered_text text is (bad_item at e z) s = absurd (s.order refl)
  ordered_text text is (ran order e on) s =
      record { text = text; order_text = is; order = order; read = e; onward = onward_of order on }

  ordered : (named : Option (List ℕ)) → asked.order ≡ named → {n : ℕ} (told : List ℕ)
      → GridFileCause call code grid asked turns named n told → IsRunStatus n → Ordered n
  ordered None same told c s =
      ordered_text [] (subst (λ o. IsOrderText call o []) (sym same) refl) c s
  ordered (Some file) same told (no_text may ends) s = absurd (s.unreadable refl)
  ordered (Some file) same told (long_text long ends) s = absurd (s.too_long refl)
  ordered (Some file) same told (of_text source w) s =
      ordered_text source.text (subst (λ o. IsOrderText call o source.text) (sym same) (source, refl)) w s

  -- the run under the order that is there, after the turns that were given
  under_text : (text order : List ℕ) {n : ℕ} {told : List ℕ} → reading (processors code) text ≡ Ok order
      → (given : ℕ) → turns ≡ grid.turns + given → GridCause code grid asked turns text n told
      → (t : List ℕ) × RunCause (onward_run code grid asked order) false given n t
  under_text text order read given counted (bad_item at e z) = absurd (read_one at order e read)
  under_text text order {n = n} read given counted (ran other e on) =
      let same : on.given ≡ given = omega (arith, counted, on.counted) in (
        on.holds.text,
        subst (λ k. RunCause (onward_run code grid asked order) false k n on.holds.text) same
            (subst (λ o. RunCause (onward_run code grid asked o) false on.given n on.holds.text)
            (same_order _ other order e read) on.holds.cause),
      )

  under : (m : ℕ) → IsSettled call m → (named : Option (List ℕ)) (text order : List ℕ) {n : ℕ} (told : List ℕ)
      → n ≢ UNREADABLE → IsOrderText call named text → reading (processors code) text ≡ Ok order
      → (given : ℕ) → turns ≡ grid.turns + given → GridFileCause call code grid asked turns named n told
      → (t : List ℕ) × RunCause (onward_run code grid asked order) false given n t
  under m settled None text order told a is read given counted c =
      under_text [] order (subst (λ t. reading (processors code) t ≡ Ok order) is read) given counted c
  under m settled (Some file) text order told a is read given counted (no_text may ends) = absurd (a refl)
  under m settled (Some file) text order told a is read given counted (long_text long ends) =
      absurd (not_long call file (settled.one file) long is.0)
  under m settled (Some file) text order told a is read given counted (of_text source w) =
      under_text source.text order (subst (λ t. reading (processors code) t ≡ Ok order)
      (sym is.1 ∙ same_text call file (settled.one file) is.0 source) read) given counted w

  -- a text that is too long
  grid_end : (text : List ℕ) {n : ℕ} {told : List ℕ} → GridCause code grid asked turns text n told
      → IsNoEnd n → n ≢ ORDER_REFUSED → ⊥
  grid_end text (bad_item at e z) apart other = other refl
  grid_end text {n = n} (ran order e on) apart other = never n apart (run_end on.holds.cause)

  long_order : (named : Option (List ℕ)) (n : ℕ) (told : List ℕ) → GridFileCause call code grid asked turns named n told
      → n ≡ TOO_LONG → HasLongOrder call named
  long_order None n told c e =
      absurd (grid_end [] c (subst IsNoEnd (sym e) no_long) (λ f. omega (arith, e, f)))
  long_order (Some file) n told (no_text may ends) e = absurd (omega (arith, e))
  long_order (Some file) n told (long_text long ends) e = long
  long_order (Some file) n told (of_text source w) e =
      absurd (grid_end source.text w (subst IsNoEnd (sym e) no_long) (λ f. omega (arith, e, f)))

  was_long : (m : ℕ) → IsSettled call m → (named : Option (List ℕ)) {n : ℕ} (told : List ℕ)
      → GridFileCause call code grid asked turns named n told → n ≢ UNREADABLE → HasLongOrder call named
      → n ≡ TOO_LONG
  was_long m settled None told c a h = absurd h
  was_long m settled (Some file) told (no_text may ends) a h = absurd (a refl)
  was_long m settled (Some file) told (long_text long ends) a h = refl
  was_long m settled (Some file) told (of_text source w) a h = absurd (not_long call file (settled.one file) h source)

  -- a wrong item
  bad_text : (text : List ℕ) {n : ℕ} {told : List ℕ} → GridCause code grid asked turns text n told
      → n ≡ ORDER_REFUSED → (at : ℕ) × (reading (processors code) text ≡ Err at)
  bad_text text (bad_item at e z) h = (at, e)
  bad_text text {n = n} (ran order e on) h =
      absurd (never n (subst IsNoEnd (sym h) no_order) (run_end on.holds.cause))

  bad_order : (named : Option (List ℕ)) → asked.order ≡ named → (n : ℕ) (told : List ℕ)
      → GridFileCause call code grid asked turns named n told → n ≡ ORDER_REFUSED → HasBadOrder call asked code
  bad_order None same n told c e =
      let bad = bad_text [] c e in
      record { text = []; order_text = subst (λ o. IsOrderText call o []) (sym same) refl; at = bad.0; bad = bad.1 }
  bad_order (Some file) same n told (no_text may ends) e = absurd (omega (arith, e))
  bad_order (Some file) same n told (long_text long ends) e = absurd (omega (arith, e))
  bad_order (Some file) same n told (of_text source w) e =
      let bad = bad_text source.text w e in
      record {
        text = source.text;
        order_text = subst (λ o. IsOrderText call o source.text) (sym same) (source, refl);
        at = bad.0;
        bad = bad.1;
      }

  was_bad_text : (text : List ℕ) {n : ℕ} {told : List ℕ} → GridCause code grid asked turns text n told
      → (at : ℕ) → reading (processors code) text ≡ Err at → n ≡ ORDER_REFUSED
  was_bad_text text (bad_item at e z) other h = refl
  was_bad_text text (ran order e on) other h = absurd (read_one other order h e)

  was_bad : (m : ℕ) → IsSettled call m → (named : Option (List ℕ)) (text : List ℕ) {n : ℕ} (told : List ℕ)
      → GridFileCause call code grid asked turns named n told → n ≢ UNREADABLE → IsOrderText call named text
      → (at : ℕ) → reading (processors code) text ≡ Err at → n ≡ ORDER_REFUSED
  was_bad m settled None text told c a is at h =
      was_bad_text [] c at (subst (λ t. reading (processors code) t ≡ Err at) is h)
  was_bad m settled (Some file) text told (no_text may ends) a is at h = absurd (a refl)
  was_bad m settled (Some file) text told (long_text long ends) a is at h =
      absurd (not_long call file (settled.one file) long is.0)
  was_bad m settled (Some file) text told (of_text source w) a is at h =
      was_bad_text source.text w at (subst (λ t. reading (processors code) t ≡ Err at)
      (sym is.1 ∙ same_text call file (settled.one file) is.0 source) h)

  not_saved : (named : Option (List ℕ)) (n : ℕ) (told : List ℕ) → GridFileCause call code grid asked turns named n told
      → n ≢ SAVE_REFUSED
  not_saved None n told c = λ e. grid_end [] c (subst IsNoEnd (sym e) no_save) (λ f. omega (arith, e, f))
  not_saved (Some file) n told (no_text may ends) = λ e. omega (arith, e)
  not_saved (Some file) n told (long_text long ends) = λ e. omega (arith, e)
  not_saved (Some file) n told (of_text source w) =
      λ e. grid_end source.text w (subst IsNoEnd (sym e) no_save) (λ f. omega (arith, e, f))

-- ---- the saved grid
module _ (call : Call) (m : ℕ) (settled : IsSettled call m) (file : List ℕ) where
  pub texts_are : (a b : Source call file) → a.text ≡ b.text
  texts_are a b = settled.one file a.text b.text a.told b.told

  pub is_short : IsTooLong call file → Source call file → ⊥
  is_short long source =
      let same : length long.text ≡ length source.text =
      ap length (settled.one file long.text source.text long.told source.told) in
      omega (arith, same, long.long, source.short)

module _ (one : IsOneGrid) (call : Call) (ex : Execution) (file : List ℕ) (asked : Asked) where
  -- from a cause to what there is
  gone : {n : ℕ} {told : List ℕ} → ResumeCause call file asked ex n told → IsOther n
      → HasGone call file asked ex (λ run k. (t : List ℕ) × RunCause run false k n t)
  gone (unreadable may none) s = absurd (s.run.unreadable refl)
  gone (too_long long none) s = absurd (s.run.too_long refl)
  gone (work source (refused why is none)) s = absurd (s.save refl)
  gone (work source (saved code grid is made c)) s =
      let o = ordered call code grid asked ex.turns asked.order refl _ c s.run in
      record {
        source = source;
        code = code;
        grid = grid;
        saved = is;
        made = made;
        text = o.text;
        order_text = o.order_text;
        order = o.order;
        read = o.read;
        onward = o.onward;
      }

  long_from : {n : ℕ} {told : List ℕ} → ResumeCause call file asked ex n told → n ≡ TOO_LONG
      → IsTooLong call file ⊎ HasSaved call file (λ code. HasLongOrder call asked.order)
  long_from (unreadable may none) e = absurd (omega (arith, e))
  long_from (too_long long none) e = inl long
  long_from (work source (refused why is none)) e = absurd (omega (arith, e))
  long_from (work source (saved code grid is made c)) e = inr (record {
    source = source;
    code = code;
    grid = grid;
    saved = is;
    holds = long_order call code grid asked ex.turns asked.order _ _ c e;
  })

  bad_from : {n : ℕ} {told : List ℕ} → ResumeCause call file asked ex n told → n ≡ ORDER_REFUSED
      → HasSaved call file (HasBadOrder call asked)
  bad_from (unreadable may none) e = absurd (omega (arith, e))
  bad_from (too_long long none) e = absurd (omega (arith, e))
  bad_from (work source (refused why is none)) e = absurd (omega (arith, e))
  bad_from (work source (saved code grid is made c)) e = record {
    source = source;
    code = code;
    grid = grid;
    saved = is;
    holds = bad_order call code grid asked ex.turns asked.order refl _ _ c e;
  }

  none_from : {n : ℕ} {told : List ℕ} → ResumeCause call file asked ex n told → n ≡ SAVE_REFUSED
      → (source : Source call file) × SavesNone source.text
  none_from (unreadable may none) e = absurd (omega (arith, e))
  none_from (too_long long none) e = absurd (omega (arith, e))
  none_from (work source (refused why is none)) e = (source, is.none)
  none_from (work source (saved code grid is made c)) e =
      absurd (not_saved call code grid asked ex.turns asked.order _ _ c e)

  -- and back, where no fetch failed and files tell one text a name
  module _ (m : ℕ) (settled : IsSettled call m) where
    same_saved : (source : Source call file) (code other : Tables) (grid next : Grid) (also : Source call file)
        → IsSaved source.text code grid → IsSaved also.text other next → (code ≡ other) × (grid ≡ next)
    same_saved source code other grid next also is h =
        one also.text code other grid next
        (subst (λ t. IsSaved t code grid) (texts_are call m settled file source also) is) h

    unsaved : (source also : Source call file) → SavesNone source.text → (code : Tables) (grid : Grid)
        → IsSaved also.text code grid → ⊥
    unsaved source also none code grid is =
        none code grid (subst (λ t. IsSaved t code grid) (texts_are call m settled file also source) is)

    reach : {n : ℕ} {told : List ℕ} {Holds : Run → ℕ → Type 0} → ResumeCause call file asked ex n told
        → n ≢ UNREADABLE → (h : HasGone call file asked ex Holds)
        → (t : List ℕ) × RunCause (onward_run h.code h.grid asked h.order) false h.onward.given n t
    reach (unreadable may none) a h = absurd (a refl)
    reach (too_long long none) a h = absurd (is_short call m settled file long h.source)
    reach (work source (refused why is none)) a h = absurd (unsaved source h.source is.none h.code h.grid h.saved)
    reach {n = n} {told = told} (work source (saved code grid is made c)) a h =
        let same = same_saved source code h.code grid h.grid h.source is h.saved in
        under call h.code h.grid asked ex.turns m settled asked.order h.text h.order told a h.order_text h.read
        h.onward.given h.onward.counted
        (subst (λ (t : Tables). GridFileCause call t h.grid asked ex.turns asked.order n told) same.0
        (subst (λ (g : Grid). GridFileCause call code g asked ex.turns asked.order n told) same.1 c))

    long_to : {n : ℕ} {told : List ℕ} → ResumeCause call file asked ex n told → n ≢ UNREADABLE
        → IsTooLong call file ⊎ HasSaved call file (λ code. HasLongOrder call asked.order) → n ≡ TOO_LONG
    long_to (unreadable may none) a h = absurd (a refl)
    long_to (too_long long none) a h = refl
    long_to (work source w) a (inl long) = absurd (is_short call m settled file long source)
    long_to (work source (refused why is none)) a (inr h) =
        absurd (unsaved source h.source is.none h.code h.grid h.saved)
    long_to (work source (saved code grid is made c)) a (inr h) =
        was_long call code grid asked ex.turns m settled asked.order _ c a h.holds

    bad_to : {n : ℕ} {told : List ℕ} → ResumeCause call file asked ex n told → n ≢ UNREADABLE
        → HasSaved call file (HasBadOrder call asked) → n ≡ ORDER_REFUSED
    bad_to (unreadable may none) a h = absurd (a refl)
    bad_to (too_long long none) a h = absurd (is_short call m settled file long h.source)
    bad_to (work source (refused why is none)) a h =
        absurd (unsaved source h.source is.none h.code h.grid h.saved)
    bad_to (work source (saved code grid is made c)) a h =
        let same = same_saved source code h.code grid h.grid h.source is h.saved in
        let bad = subst (HasBadOrder call asked) (sym same.0) h.holds in
        was_bad call code grid asked ex.turns m settled asked.order bad.text _ c a bad.order_text bad.at bad.bad

    none_to : {n : ℕ} {told : List ℕ} → ResumeCause call file asked ex n told → n ≢ UNREADABLE
        → (source : Source call file) × SavesNone source.text → n ≡ SAVE_REFUSED
    none_to (unreadable may none) a h = absurd (a refl)
    none_to (too_long long none) a h = absurd (is_short call m settled file long h.0)
    none_to (work source (refused why is none)) a h = refl
    none_to (work source (saved code grid is made c)) a h = absurd (unsaved h.0 source h.1 code grid is)

-- ---- any call
module _ (one : IsOneGrid) (call : Call) (ex : Execution) where
  too_long_from : {n : ℕ} {told : List ℕ} → Cause call ex n told → n ≡ TOO_LONG → ResumesTooLong call
  too_long_from no_memory e = absurd (omega (arith, e))
  too_long_from (resume is) e =
      record { file = is.file; asked = is.asked; given = is.given; holds = long_from one call ex is.file is.asked is.holds e }

  too_long_to : {n : ℕ} {told : List ℕ} → Cause call ex n told → IsSettled call n → ResumesTooLong call → n ≡ TOO_LONG
  too_long_to no_memory settled h = absurd (settled.decided.memory refl)
  too_long_to {n = n} (resume is) settled h =
      long_to one call ex is.file is.asked n settled is.holds settled.read
      (as_asked (codes "resume") ResumeTakes call.words is h)

  order_from : {n : ℕ} {told : List ℕ} → Cause call ex n told → n ≡ ORDER_REFUSED → ResumesBadOrder call
  order_from no_memory e = absurd (omega (arith, e))
  order_from (resume is) e =
      record { file = is.file; asked = is.asked; given = is.given; holds = bad_from one call ex is.file is.asked is.holds e }

  order_to : {n : ℕ} {told : List ℕ} → Cause call ex n told → IsSettled call n → ResumesBadOrder call → n ≡ ORDER_REFUSED
  order_to no_memory settled h = absurd (settled.decided.memory refl)
  order_to {n = n} (resume is) settled h =
      bad_to one call ex is.file is.asked n settled is.holds settled.read
      (as_asked (codes "resume") ResumeTakes call.words is h)

  refused_from : {n : ℕ} {told : List ℕ} → Cause call ex n told → n ≡ SAVE_REFUSED → ResumesNone call
  refused_from no_memory e = absurd (omega (arith, e))
  refused_from (resume is) e =
      record { file = is.file; asked = is.asked; given = is.given; holds = none_from one call ex is.file is.asked is.holds e }

  refused_to : {n : ℕ} {told : List ℕ} → Cause call ex n told → IsSettled call n → ResumesNone call → n ≡ SAVE_REFUSED
  refused_to no_memory settled h = absurd (settled.decided.memory refl)
  refused_to {n = n} (resume is) settled h =
      none_to one call ex is.file is.asked n settled is.holds settled.read
      (as_asked (codes "resume") ResumeTakes call.words is h)

  -- a status of runs
  run_from : (s : ℕ) (Holds : Run → ℕ → Type 0) → IsOther s
      → ((run : Run) (k m : ℕ) (t : List ℕ) → RunCause run false k m t → m ≡ s → Holds run k)
      → {n : ℕ} {told : List ℕ} → Cause call ex n told → n ≡ s → ResumesRun call ex Holds
  run_from s Holds other f no_memory e = absurd (other.run.memory (sym e))
  run_from s Holds other f {n = n} (resume is) e =
      let h = gone one call ex is.file is.asked is.holds (subst IsOther (sym e) other) in
      record {
        file = is.file;
        asked = is.asked;
        given = is.given;
        holds = record {
          source = h.source;
          code = h.code;
          grid = h.grid;
          saved = h.saved;
          made = h.made;
          text = h.text;
          order_text = h.order_text;
          order = h.order;
          read = h.read;
          onward = record {
            given = h.onward.given;
            counted = h.onward.counted;
            goes_on = h.onward.goes_on;
            holds = f (onward_run h.code h.grid is.asked h.order) h.onward.given n h.onward.holds.0 h.onward.holds.1 e;
          };
        };
      }

  run_to : (s : ℕ) (Holds : Run → ℕ → Type 0)
      → ((run : Run) (k : ℕ) → Holds run k → (t : List ℕ) × RunCause run false k s t)
      → {n : ℕ} {told : List ℕ} → Cause call ex n told → IsSettled call n → ResumesRun call ex Holds → n ≡ s
  run_to s Holds f no_memory settled r = absurd (settled.decided.memory refl)
  run_to s Holds f {n = n} (resume is) settled r =
      let h = as_asked (codes "resume") ResumeTakes call.words is r in
      let came = reach one call ex is.file is.asked n settled is.holds settled.read h in
      let ends = f (onward_run h.code h.grid is.asked h.order) h.onward.given h.onward.holds in
      run_one (onward_run h.code h.grid is.asked h.order) false h.onward.given came.1 ends.1

  pub exact : {n : ℕ} {told : List ℕ} → Cause call ex n told → IsExact call ex n
  exact cause = record {
    too_long = λ settled. (too_long_from cause, too_long_to cause settled);
    order_refused = λ settled. (order_from cause, order_to cause settled);
    refused = λ settled. (refused_from cause, refused_to cause settled);
    done = λ settled. (
      run_from DONE IsDoneAt (record { run = is_done; save = λ e. omega (arith, e) })
          (λ run k m t. run_done run false k) cause,
      run_to DONE IsDoneAt (λ run k. told_done run k false) cause settled,
    );
    trap = λ settled. (
      run_from TRAPPED IsTrapAt (record { run = is_trapped; save = λ e. omega (arith, e) })
          (λ run k m t. run_trap run false k) cause,
      run_to TRAPPED IsTrapAt (λ run k. told_trap run k false) cause settled,
    );
    turn_limit = λ settled. (
      run_from TURN_LIMIT IsLimitedAt (record { run = is_limit; save = λ e. omega (arith, e) })
          (λ run k m t. run_limit run false k) cause,
      run_to TURN_LIMIT IsLimitedAt (λ run k. told_limit run k false) cause settled,
    );
    stuck = λ settled. (
      run_from STUCK IsStuckOrIdleAt (record { run = is_stuck; save = λ e. omega (arith, e) })
          (λ run k m t. run_stuck run false k) cause,
      run_to STUCK IsStuckOrIdleAt (λ run k. told_stuck run k false) cause settled,
    );
  }

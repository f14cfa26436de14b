-- When a text is too long, and when an item of the order is wrong.
use Rattle.std.proofs.Common.{◌≡◌, ◌≢◌, ◌↔◌, ◌⊎◌, ℕ, Bool, List, [], Option, Some, None, Err, codes}
use Rattle.std.proofs.Common.{refl, sym, ◌∙◌, subst, inl, inr, arith}
use Rattle.node_form.specs.declared.tables.Tables.{Tables}
use Rattle.listing_lines.specs.Listing.{IsBadLine}
use Rattle.node_text.specs.Listing.{IsBadTable, IsListing}
use Rattle.call_claims.specs.Call.{Call}
use Rattle.call_claims.specs.Decided.{IsSettled}
use Rattle.call_claims.specs.Execution.{Execution}
use Rattle.call_claims.specs.declared.status.TheConstants.{UNREADABLE, TOO_LONG}
use Rattle.call_claims.specs.Command.{Asked, ExecTakes}
use Rattle.call_claims.proofs.OneLemmas.{as_asked}
use Rattle.grid_runs.specs.Run.{Run}
use Rattle.grid_meaning.specs.Grid.{processors}
use Rattle.grid_order.specs.Reading.{reading}
use Rattle.exec_claims.specs.Cause.{RunCause, OrderCause, OrderFileCause, PassesCheck}
use Rattle.exec_claims.specs.Cause.{ListingFileCause, Cause, Source, IsTooLong, run_of}
use Rattle.exec_claims.specs.Cause.RunCause.{done, trap, turn_limit, stuck, idle}
use Rattle.exec_claims.specs.Cause.OrderCause.{bad_item, ran}
use Rattle.exec_claims.specs.Cause.TextCause.{unreadable, too_long, work}
use Rattle.exec_claims.specs.Cause.CodeCause.{fails, passes}
use Rattle.exec_claims.specs.Cause.ListingCause.{bad_line, bad_table, listed}
use Rattle.exec_claims.specs.Cause.Cause.{no_memory, exec}
use Rattle.exec_claims.specs.Decided.{IsOneOrder, IsOrderText, HasListing, HasLongOrder, HasPassed}
use Rattle.exec_claims.specs.Decided.{ExecsTooLong, HasBadOrder, ExecsBadOrder}
use Rattle.exec_claims.specs.declared.status.TheConstants.{ORDER_REFUSED}
use Rattle.exec_claims.proofs.CheckLemmas.{fails_other, not_failed}
use Rattle.exec_claims.proofs.OneCause.{not_long, read_one, same_text, text_short, texts_same}

-- ---- a run has neither status
run_other : (run : Run) (report : Bool) (k : ℕ) {n : ℕ} {told : List ℕ}
    → RunCause run report k n told → (n ≢ TOO_LONG) × (n ≢ ORDER_REFUSED)
run_other run report k (done e) = (λ h. omega arith, λ h. omega arith)
run_other run report k (trap kind line e) = (λ h. omega arith, λ h. omega arith)
run_other run report k (turn_limit e) = (λ h. omega arith, λ h. omega arith)
run_other run report k (stuck p kind e) = (λ h. omega arith, λ h. omega arith)
run_other run report k (idle p e) = (λ h. omega arith, λ h. omega arith)

-- ---- the order
module _ (call : Call) (code : Tables) (asked : Asked) (turns : ℕ) where
  order_short : (text : List ℕ) {n : ℕ} {told : List ℕ}
      → OrderCause code asked turns text n told → n ≢ TOO_LONG
  order_short text (bad_item at e z) = λ h. omega arith
  order_short text (ran order e goes c) =
      (run_other (run_of code asked order) asked.report turns c).0

  -- an order's file that is too long
  pub long_order : (file : Option (List ℕ)) (n : ℕ) (told : List ℕ)
      → OrderFileCause call code asked turns file n told → n ≡ TOO_LONG → HasLongOrder call file
  long_order None n told c e = absurd (order_short [] c e)
  long_order (Some file) n told (unreadable may ends) e = absurd (omega arith)
  long_order (Some file) n told (too_long long ends) e = long
  long_order (Some file) n told (work source w) e = absurd (order_short source.text w e)

  pub was_long_order : (file : Option (List ℕ)) (n : ℕ) (told : List ℕ)
      → OrderFileCause call code asked turns file n told → IsOneOrder call n file
      → HasLongOrder call file → n ≡ TOO_LONG
  was_long_order None n told c one h = absurd h
  was_long_order (Some file) n told (unreadable may ends) one h = absurd (one.0 refl)
  was_long_order (Some file) n told (too_long long ends) one h = refl
  was_long_order (Some file) n told (work source w) one h = absurd (not_long call file one.1 h source)

  -- a wrong item
  bad_order : (file : Option (List ℕ)) (text : List ℕ) → IsOrderText call file text → {n : ℕ}
      {told : List ℕ} → OrderCause code asked turns text n told → n ≡ ORDER_REFUSED
      → (at : ℕ) × (reading (processors code) text ≡ Err at)
  bad_order file text is (bad_item at e z) h = (at, e)
  bad_order file text is (ran order e goes c) h =
      absurd ((run_other (run_of code asked order) asked.report turns c).1 h)

  pub bad_order_file : (file : Option (List ℕ)) (n : ℕ) (told : List ℕ)
      → OrderFileCause call code asked turns file n told → n ≡ ORDER_REFUSED
      → (text : List ℕ) × IsOrderText call file text
      × ((at : ℕ) × (reading (processors code) text ≡ Err at))
  bad_order_file None n told c e = ([], refl, bad_order None [] refl c e)
  bad_order_file (Some file) n told (unreadable may ends) e = absurd (omega arith)
  bad_order_file (Some file) n told (too_long long ends) e = absurd (omega arith)
  bad_order_file (Some file) n told (work source w) e =
      (source.text, (source, refl), bad_order (Some file) source.text (source, refl) w e)

  was_bad_text : (text : List ℕ) {n : ℕ} {told : List ℕ} → OrderCause code asked turns text n told
      → (at : ℕ) → reading (processors code) text ≡ Err at → n ≡ ORDER_REFUSED
  was_bad_text text (bad_item at e z) other h = refl
  was_bad_text text (ran order e goes c) other h = absurd (read_one other order h e)

  pub was_bad_order : (file : Option (List ℕ)) (n : ℕ) (told : List ℕ)
      → OrderFileCause call code asked turns file n told → IsOneOrder call n file
      → (text : List ℕ) → IsOrderText call file text → (at : ℕ)
      → reading (processors code) text ≡ Err at → n ≡ ORDER_REFUSED
  was_bad_order None n told c one text is at h =
      was_bad_text [] c at (subst (λ t. reading (processors code) t ≡ Err at) is h)
  was_bad_order (Some file) n told (unreadable may ends) one text is at h = absurd (one.0 refl)
  was_bad_order (Some file) n told (too_long long ends) one text is at h =
      absurd (not_long call file one.1 long is.0)
  was_bad_order (Some file) n told (work source w) one text is at h =
      was_bad_text source.text w at (subst (λ t. reading (processors code) t ≡ Err at)
      (sym is.1 ∙ same_text call file one.1 is.0 source) h)

-- it is one where no fetch failed and files tell one text a name
pub one_order : (call : Call) (m : ℕ) → IsSettled call m → (file : Option (List ℕ))
    → IsOneOrder call m file
one_order call m settled None = tt
one_order call m settled (Some file) = (settled.read, settled.one file)

-- ---- the listing
module _ (call : Call) (ex : Execution) (file : List ℕ) (asked : Asked) where
  abbrev pub IsLong : Type 0
  IsLong = IsTooLong call file ⊎ HasPassed call file asked (λ code. HasLongOrder call asked.order)

  pub long_from : {n : ℕ} {told : List ℕ} → ListingFileCause call file asked ex n told
      → n ≡ TOO_LONG → IsLong
  long_from (unreadable may ends) h = absurd (omega arith)
  long_from (too_long long ends) h = inl long
  long_from (work source (bad_line line e z)) h = absurd (omega arith)
  long_from (work source (bad_table line e z)) h = absurd (omega arith)
  long_from (work source (listed code is made (fails asks z f))) h =
      absurd ((fails_other f).too_long h)
  long_from (work source (listed code is made (passes passed c))) h = inr (record {
    source = source;
    code = code;
    listing = is;
    holds = (passed, long_order call code asked ex.turns asked.order _ _ c h);
  })

  pub wrong_from : {n : ℕ} {told : List ℕ} → ListingFileCause call file asked ex n told
      → n ≡ ORDER_REFUSED → HasPassed call file asked (HasBadOrder call asked)
  wrong_from (unreadable may ends) h = absurd (omega arith)
  wrong_from (too_long long ends) h = absurd (omega arith)
  wrong_from (work source (bad_line line e z)) h = absurd (omega arith)
  wrong_from (work source (bad_table line e z)) h = absurd (omega arith)
  wrong_from (work source (listed code is made (fails asks z f))) h =
      absurd ((fails_other f).order h)
  wrong_from (work source (listed code is made (passes passed c))) h = record {
    source = source;
    code = code;
    listing = is;
    holds = let found = bad_order_file call code asked ex.turns asked.order _ _ c h in (
      passed,
      record { text = found.0; order_text = found.1; at = found.2.0; bad = found.2.1 },
    );
  }

  module _ (m : ℕ) (settled : IsSettled call m)
      (line_law : (bytes : List ℕ) (tables : Tables) (number : ℕ) → IsListing bytes tables
      → IsBadLine bytes number → ⊥)
      (table_law : (bytes : List ℕ) (tables : Tables) (number : ℕ) → IsListing bytes tables
      → IsBadTable bytes number → ⊥) where
    -- a listing that is there is read
    is_listed : {Holds : Tables → Type 0} (source : Source call file)
        (h : HasListing call file Holds) → IsListing source.text h.code
    is_listed source h =
        subst (λ t. IsListing t h.code) (texts_same call file m settled h.source source) h.listing

    module _ (program : (bytes : List ℕ) (one other : Tables) → IsListing bytes one
        → IsListing bytes other → one ≡ other) where
      -- the listed code passes, and this holds of it
      of_passed : {Holds : Tables → Type 0} (source : Source call file) (code : Tables)
          → IsListing source.text code → HasPassed call file asked Holds
          → PassesCheck asked code × Holds code
      of_passed {Holds} source code is h =
          subst (λ t. PassesCheck asked t × Holds t)
          (program source.text h.code code (is_listed source h) is) h.holds

      pub long_to : {n : ℕ} {told : List ℕ} → ListingFileCause call file asked ex n told
          → n ≢ UNREADABLE → IsOneOrder call n asked.order → IsLong → n ≡ TOO_LONG
      long_to (unreadable may ends) a once h = absurd (a refl)
      long_to (too_long long ends) a once h = refl
      long_to (work source w) a once (inl long) =
          absurd (text_short call file m settled long source)
      long_to (work source (bad_line line e z)) a once (inr h) =
          absurd (line_law source.text h.code line (is_listed source h) e)
      long_to (work source (bad_table line e z)) a once (inr h) =
          absurd (table_law source.text h.code line (is_listed source h) e)
      long_to (work source (listed code is made (fails asks z f))) a once (inr h) =
          absurd (not_failed asked (of_passed source code is h).0 asks f)
      long_to (work source (listed code is made (passes passed c))) a once (inr h) =
          was_long_order call code asked ex.turns asked.order _ _ c once h.holds.1

      pub wrong_to_order : {n : ℕ} {told : List ℕ} → ListingFileCause call file asked ex n told
          → n ≢ UNREADABLE → IsOneOrder call n asked.order
          → HasPassed call file asked (HasBadOrder call asked) → n ≡ ORDER_REFUSED
      wrong_to_order (unreadable may ends) a once h = absurd (a refl)
      wrong_to_order (too_long long ends) a once h =
          absurd (text_short call file m settled long h.source)
      wrong_to_order (work source (bad_line line e z)) a once h =
          absurd (line_law source.text h.code line (is_listed source h) e)
      wrong_to_order (work source (bad_table line e z)) a once h =
          absurd (table_law source.text h.code line (is_listed source h) e)
      wrong_to_order (work source (listed code is made (fails asks z f))) a once h =
          absurd (not_failed asked (of_passed source code is h).0 asks f)
      wrong_to_order (work source (listed code is made (passes passed c))) a once h =
          let wrong = (of_passed source code is h).1 in
          was_bad_order call code asked ex.turns asked.order _ _ c once wrong.text
          wrong.order_text wrong.at wrong.bad

-- ---- any call
module _ (call : Call) (ex : Execution) (n : ℕ) (told : List ℕ)
    (line : (bytes : List ℕ) (tables : Tables) (number : ℕ) → IsListing bytes tables
    → IsBadLine bytes number → ⊥)
    (table : (bytes : List ℕ) (tables : Tables) (number : ℕ) → IsListing bytes tables
    → IsBadTable bytes number → ⊥) where
  execs_long : {m : ℕ} {t : List ℕ} → Cause call ex m t → m ≡ TOO_LONG → ExecsTooLong call
  execs_long no_memory e = absurd (omega arith)
  execs_long (exec is) e = record {
    file = is.file;
    asked = is.asked;
    given = is.given;
    holds = long_from call ex is.file is.asked is.holds e;
  }

  execs_wrong : {m : ℕ} {t : List ℕ} → Cause call ex m t → m ≡ ORDER_REFUSED
      → ExecsBadOrder call
  execs_wrong no_memory e = absurd (omega arith)
  execs_wrong (exec is) e = record {
    file = is.file;
    asked = is.asked;
    given = is.given;
    holds = wrong_from call ex is.file is.asked is.holds e;
  }

  module _ (one : (bytes : List ℕ) (first other : Tables) → IsListing bytes first
      → IsListing bytes other → first ≡ other) where
    is_long : {m : ℕ} {t : List ℕ} → Cause call ex m t → IsSettled call m → ExecsTooLong call
        → m ≡ TOO_LONG
    is_long no_memory settled r = absurd (settled.decided.memory refl)
    is_long {m = m} (exec is) settled r =
        long_to call ex is.file is.asked m settled line table one is.holds settled.read
        (one_order call m settled is.asked.order)
        (as_asked (codes "exec") ExecTakes call.words is r)

    pub long_exactly : Cause call ex n told → IsSettled call n
        → (n ≡ TOO_LONG) ↔ ExecsTooLong call
    long_exactly c settled = (execs_long c, is_long c settled)

    is_wrong : {m : ℕ} {t : List ℕ} → Cause call ex m t → IsSettled call m
        → ExecsBadOrder call → m ≡ ORDER_REFUSED
    is_wrong no_memory settled r = absurd (settled.decided.memory refl)
    is_wrong {m = m} (exec is) settled r =
        wrong_to_order call ex is.file is.asked m settled line table one is.holds settled.read
        (one_order call m settled is.asked.order)
        (as_asked (codes "exec") ExecTakes call.words is r)

    pub order_exactly : Cause call ex n told → IsSettled call n
        → (n ≡ ORDER_REFUSED) ↔ ExecsBadOrder call
    order_exactly c settled = (execs_wrong c, is_wrong c settled)

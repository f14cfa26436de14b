-- When the check of listed code fails.
use Rattle.std.proofs.Common.{◌≡◌, ◌≢◌, ◌↔◌, ◌⊎◌, inl, inr, ℕ, IsTrue, Bool, List, [], Option, Some, None}
use Rattle.std.proofs.Common.{codes, refl, sym, subst, arith}
use Rattle.node_form.specs.declared.tables.Tables.{Tables}
use Rattle.listing_lines.specs.Listing.{IsBadLine}
use Rattle.node_text.specs.Listing.{IsBadTable, IsListing}
use Rattle.call_claims.specs.Call.{Call}
use Rattle.call_claims.specs.Decided.{IsSettled}
use Rattle.call_claims.specs.Execution.{Execution}
use Rattle.call_claims.specs.Command.{Asked, ExecTakes}
use Rattle.call_claims.specs.declared.status.TheConstants.{TOO_LONG, UNREADABLE}
use Rattle.call_claims.proofs.OneLemmas.{as_asked}
use Rattle.grid_runs.specs.Run.{Run}
use Rattle.exec_claims.specs.Cause.{Cause, CheckFails, CodeCause, ListedCause, ListingFileCause, OrderCause}
use Rattle.exec_claims.specs.Cause.{OrderFileCause, RunCause, Source, run_of}
use Rattle.exec_claims.specs.Cause.RunCause.{done, trap, turn_limit, stuck, idle}
use Rattle.exec_claims.specs.Cause.OrderCause.{bad_item, ran}
use Rattle.exec_claims.specs.Cause.CodeCause.{fails, passes}
use Rattle.exec_claims.specs.Cause.TextCause.{unreadable, too_long, work}
use Rattle.exec_claims.specs.Cause.ListingCause.{bad_line, bad_table, listed}
use Rattle.exec_claims.specs.Cause.Cause.{no_memory, exec}
use Rattle.exec_claims.specs.Decided.{ExecsChecked, HasListing, IsTooLarge, IsUnsound}
use Rattle.exec_claims.specs.declared.status.TheConstants.{CHECK_LIMIT, LISTING_REFUSED, UNSOUND}
use Rattle.exec_claims.proofs.CheckLemmas.{fails_large, fails_one, fails_unsound, not_failed}
use Rattle.exec_claims.proofs.CheckLemmas.{told_large, told_unsound}
use Rattle.exec_claims.proofs.OneCause.{text_short, texts_same}

-- ---- the status of a check that fails so
pub record IsFailure (s : ℕ) (Holds : Tables → Type 0) : Type 0 where
  pub of : (s ≡ UNSOUND) ⊎ (s ≡ CHECK_LIMIT)
  pub from : (code : Tables) (n : ℕ) (told : List ℕ) → CheckFails code n told → n ≡ s → Holds code
  pub to : (code : Tables) → Holds code → (told : List ℕ) × CheckFails code s told

pub is_unsound : IsFailure UNSOUND IsUnsound
is_unsound = record {
  of = inl refl;
  from = λ code n told. fails_unsound;
  to = told_unsound;
}

pub is_too_large : IsFailure CHECK_LIMIT IsTooLarge
is_too_large = record {
  of = inr refl;
  from = λ code n told. fails_large;
  to = told_large;
}

-- ---- an order and a run have neither
run_other : (run : Run) (report : Bool) (k : ℕ) {n : ℕ} {told : List ℕ}
    → RunCause run report k n told → (n ≢ UNSOUND) × (n ≢ CHECK_LIMIT)
run_other run report k (done e) = (λ h. omega arith, λ h. omega arith)
run_other run report k (trap kind line e) = (λ h. omega arith, λ h. omega arith)
run_other run report k (turn_limit e) = (λ h. omega arith, λ h. omega arith)
run_other run report k (stuck p kind e) = (λ h. omega arith, λ h. omega arith)
run_other run report k (idle p e) = (λ h. omega arith, λ h. omega arith)

module _ (call : Call) (code : Tables) (asked : Asked) (turns : ℕ) where
  order_other : {text : List ℕ} {n : ℕ} {told : List ℕ} → OrderCause code asked turns text n told
      → (n ≢ UNSOUND) × (n ≢ CHECK_LIMIT)
  order_other (bad_item at e z) = (λ h. omega arith, λ h. omega arith)
  order_other (ran order e goes c) = run_other (run_of code asked order) asked.report turns c

  pub order_file_other : (file : Option (List ℕ)) (n : ℕ) (told : List ℕ)
      → OrderFileCause call code asked turns file n told → (n ≢ UNSOUND) × (n ≢ CHECK_LIMIT)
  order_file_other None n told c = order_other c
  order_file_other (Some file) n told (unreadable may ends) = (λ h. omega arith, λ h. omega arith)
  order_file_other (Some file) n told (too_long long ends) = (λ h. omega arith, λ h. omega arith)
  order_file_other (Some file) n told (work source w) = order_other w

-- ---- a listing, by the status of work on its code
pub record IsOfWork (s : ℕ) : Type 0 where
  pub unreadable : s ≢ UNREADABLE
  pub too_long : s ≢ TOO_LONG
  pub refused : s ≢ LISTING_REFUSED

module _ (s : ℕ) (call : Call) (ex : Execution) (file : List ℕ)
    (Works : Tables → ℕ → List ℕ → Type 0) where
  -- from the work to what holds of the code
  pub listed_from : {Known : Tables → Type 0} → IsOfWork s
      → ((code : Tables) (n : ℕ) (told : List ℕ) → Works code n told → n ≡ s → Known code)
      → {n : ℕ} {told : List ℕ} → ListedCause call file ex Works n told → n ≡ s
      → HasListing call file Known
  listed_from of known (unreadable may ends) e = absurd (of.unreadable (sym e))
  listed_from of known (too_long long ends) e = absurd (of.too_long (sym e))
  listed_from of known (work source (bad_line line f z)) e = absurd (of.refused (sym e))
  listed_from of known (work source (bad_table line f z)) e = absurd (of.refused (sym e))
  listed_from of known (work source (listed code is made c)) e =
      record { source = source; code = code; listing = is; holds = known code _ _ c e }

  -- and back
  module _ (m : ℕ) (settled : IsSettled call m)
      (line_law : (bytes : List ℕ) (tables : Tables) (number : ℕ) → IsListing bytes tables
      → IsBadLine bytes number → ⊥)
      (table_law : (bytes : List ℕ) (tables : Tables) (number : ℕ) → IsListing bytes tables
      → IsBadTable bytes number → ⊥)
      (program : (bytes : List ℕ) (one other : Tables) → IsListing bytes one
      → IsListing bytes other → one ≡ other) where
    is_listed : {Known : Tables → Type 0} (source : Source call file)
        (h : HasListing call file Known) → IsListing source.text h.code
    is_listed source h =
        subst (λ t. IsListing t h.code) (texts_same call file m settled h.source source) h.listing

    pub listed_to : {Known : Tables → Type 0}
        → ((code : Tables) (n : ℕ) (told : List ℕ) → Works code n told → Known code → n ≡ s)
        → {n : ℕ} {told : List ℕ} → ListedCause call file ex Works n told → n ≢ UNREADABLE
        → HasListing call file Known → n ≡ s
    listed_to known (unreadable may ends) read h = absurd (read refl)
    listed_to known (too_long long ends) read h =
        absurd (text_short call file m settled long h.source)
    listed_to known (work source (bad_line line e z)) read h =
        absurd (line_law source.text h.code line (is_listed source h) e)
    listed_to known (work source (bad_table line e z)) read h =
        absurd (table_law source.text h.code line (is_listed source h) e)
    listed_to {Known} known (work source (listed code is made c)) read h =
        known code _ _ c
        (subst Known (program source.text h.code code (is_listed source h) is) h.holds)

-- ---- failures
module _ (s : ℕ) (Holds : Tables → Type 0) (fail : IsFailure s Holds) where
  pub of_failure : {A : Type 0} (n : ℕ) → n ≡ s → n ≢ UNSOUND → n ≢ CHECK_LIMIT → A
  of_failure n e a b = elim fail.of [
    | inl f ↦ absurd (a (subst (λ m. n ≡ m) f e))
    | inr f ↦ absurd (b (subst (λ m. n ≡ m) f e))
  ]

  pub of_work : IsOfWork s
  of_work = record {
    unreadable = λ e. of_failure UNREADABLE (sym e) (λ h. omega arith) (λ h. omega arith);
    too_long = λ e. of_failure TOO_LONG (sym e) (λ h. omega arith) (λ h. omega arith);
    refused = λ e. of_failure LISTING_REFUSED (sym e) (λ h. omega arith) (λ h. omega arith);
  }

  -- ---- exec
  module _ (call : Call) (ex : Execution) (file : List ℕ) (asked : Asked) where
    abbrev Asks : Tables → Type 0
    Asks code = IsTrue asked.checked × Holds code

    file_from : {n : ℕ} {told : List ℕ} → ListingFileCause call file asked ex n told → n ≡ s
        → HasListing call file Asks
    file_from c e =
        listed_from s call ex file (CodeCause call asked ex.turns) of_work known c e
      where
        known : (code : Tables) (n : ℕ) (told : List ℕ) → CodeCause call asked ex.turns code n told
            → n ≡ s → Asks code
        known code n told (fails asks z f) e = (asks, fail.from code n told f e)
        known code n told (passes passed c) e =
            let other = order_file_other call code asked ex.turns asked.order n told c in
            of_failure n e other.0 other.1

    module _ (m : ℕ) (settled : IsSettled call m)
        (line_law : (bytes : List ℕ) (tables : Tables) (number : ℕ) → IsListing bytes tables
        → IsBadLine bytes number → ⊥)
        (table_law : (bytes : List ℕ) (tables : Tables) (number : ℕ) → IsListing bytes tables
        → IsBadTable bytes number → ⊥)
        (program : (bytes : List ℕ) (one other : Tables) → IsListing bytes one
        → IsListing bytes other → one ≡ other) where
      file_to : {told : List ℕ} → ListingFileCause call file asked ex m told
          → HasListing call file Asks → m ≡ s
      file_to c h =
          listed_to s call ex file (CodeCause call asked ex.turns) m settled line_law table_law program
          known c settled.read h
        where
          known : (code : Tables) (n : ℕ) (told : List ℕ) → CodeCause call asked ex.turns code n told
              → Asks code → n ≡ s
          known code n told (fails asks z f) is = fails_one f (fail.to code is.1).1
          known code n told (passes passed c) is =
              absurd (not_failed asked passed is.0 (fail.to code is.1).1)

  module _ (call : Call) (ex : Execution) (n : ℕ) (told : List ℕ)
      (line : (bytes : List ℕ) (tables : Tables) (number : ℕ) → IsListing bytes tables
      → IsBadLine bytes number → ⊥)
      (table : (bytes : List ℕ) (tables : Tables) (number : ℕ) → IsListing bytes tables
      → IsBadTable bytes number → ⊥)
      (program : (bytes : List ℕ) (one other : Tables) → IsListing bytes one
      → IsListing bytes other → one ≡ other) where
    checked_from : {m : ℕ} {t : List ℕ} → Cause call ex m t → m ≡ s → ExecsChecked call Holds
    checked_from {m = m} no_memory e = of_failure m e (λ h. omega arith) (λ h. omega arith)
    checked_from (exec is) e = record {
      file = is.file;
      asked = is.asked;
      given = is.given;
      holds = file_from call ex is.file is.asked is.holds e;
    }

    checked_to : {m : ℕ} {t : List ℕ} → Cause call ex m t → IsSettled call m
        → ExecsChecked call Holds → m ≡ s
    checked_to no_memory settled r = absurd (settled.decided.memory refl)
    checked_to {m = m} (exec is) settled r =
        file_to call ex is.file is.asked m settled line table program is.holds
        (as_asked (codes "exec") ExecTakes call.words is r)

    pub checked_exactly : Cause call ex n told → IsSettled call n
        → (n ≡ s) ↔ ExecsChecked call Holds
    checked_exactly c settled = (checked_from c, checked_to c settled)

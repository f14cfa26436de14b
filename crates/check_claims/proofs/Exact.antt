-- When each status comes.
use Rattle.std.proofs.Common.{◌≡◌, ◌≢◌, ◌↔◌, ◌⊎◌, inl, inr, ℕ, List, codes, refl, sym, subst, arith}
use Rattle.node_form.specs.declared.tables.Tables.{Tables}
use Rattle.listing_lines.specs.Listing.{IsBadLine}
use Rattle.node_text.specs.Listing.{IsBadTable, IsListing}
use Rattle.call_claims.specs.Call.{Call}
use Rattle.call_claims.specs.Command.{Asked, CheckTakes}
use Rattle.call_claims.specs.Decided.{IsSettled}
use Rattle.call_claims.specs.Execution.{Execution}
use Rattle.call_claims.specs.declared.status.TheConstants.{DONE, TOO_LONG, UNREADABLE, NO_MEMORY}
use Rattle.call_claims.proofs.OneLemmas.{as_asked}
use Rattle.exec_claims.specs.Cause.{CheckFails, IsTooLong}
use Rattle.exec_claims.specs.Cause.TextCause.{unreadable, too_long, work}
use Rattle.exec_claims.specs.Cause.ListingCause.{bad_line, bad_table, listed}
use Rattle.exec_claims.specs.Decided.{HasListing, HasNoListing, IsTooLarge, IsUnsound}
use Rattle.exec_claims.specs.declared.status.TheConstants.{CHECK_LIMIT, LISTING_REFUSED, UNSOUND}
use Rattle.exec_claims.proofs.CheckExact.{IsFailure, IsOfWork, is_too_large, is_unsound, listed_from, listed_to, of_failure, of_work}
use Rattle.exec_claims.proofs.CheckLemmas.{checked_once, fails_one, fails_other}
use Rattle.exec_claims.proofs.Exact.{IsUnrefused, listed_none, listed_refused}
use Rattle.exec_claims.proofs.OneCause.{text_short, texts_same}
use Rattle.check_claims.specs.Cause.{Cause, CheckCause, CheckFileCause, Checks}
use Rattle.check_claims.specs.Cause.Cause.{no_memory, check}
use Rattle.check_claims.specs.Cause.CheckCause.{sound, fails}
use Rattle.check_claims.specs.Decided.{IsExact, IsSoundCode}

abbrev LineLaw : Type 0
LineLaw = (bytes : List ℕ) (tables : Tables) (number : ℕ) → IsListing bytes tables
    → IsBadLine bytes number → ⊥

abbrev TableLaw : Type 0
TableLaw = (bytes : List ℕ) (tables : Tables) (number : ℕ) → IsListing bytes tables
    → IsBadTable bytes number → ⊥

abbrev OneLaw : Type 0
OneLaw = (bytes : List ℕ) (one other : Tables) → IsListing bytes one → IsListing bytes other
    → one ≡ other

-- ---- the code
unrefused : IsUnrefused CheckCause
unrefused = record { other = other }
  where
    other : (code : Tables) (n : ℕ) (told : List ℕ) → CheckCause code n told → n ≢ LISTING_REFUSED
    other code n told (sound links is) = λ h. omega arith
    other code n told (fails f) = (fails_other f).listing

short : {code : Tables} {n : ℕ} {told : List ℕ} → CheckCause code n told → n ≢ TOO_LONG
short (sound links is) = λ h. omega arith
short (fails f) = (fails_other f).too_long

module _ (s : ℕ) (Holds : Tables → Type 0) (fail : IsFailure s Holds) where
  failed_from : (code : Tables) (n : ℕ) (told : List ℕ) → CheckCause code n told → n ≡ s
      → Holds code
  failed_from code n told (sound links is) e =
      of_failure s Holds fail n e (λ h. omega arith) (λ h. omega arith)
  failed_from code n told (fails f) e = fail.from code n told f e

  failed_to : (code : Tables) (n : ℕ) (told : List ℕ) → CheckCause code n told → Holds code → n ≡ s
  failed_to code n told (sound links is) h = absurd (checked_once is (fail.to code h).1)
  failed_to code n told (fails f) h = fails_one f (fail.to code h).1

done_work : IsOfWork DONE
done_work = record {
  unreadable = λ e. omega arith;
  too_long = λ e. omega arith;
  refused = λ e. omega arith;
}

sound_from : (code : Tables) (n : ℕ) (told : List ℕ) → CheckCause code n told → n ≡ DONE
    → IsSoundCode code
sound_from code n told (sound links is) e = (links, is)
sound_from code n told (fails f) e = absurd ((fails_other f).done e)

sound_to : (code : Tables) (n : ℕ) (told : List ℕ) → CheckCause code n told → IsSoundCode code
    → n ≡ DONE
sound_to code n told (sound links is) h = refl
sound_to code n told (fails f) h = absurd (checked_once h.1 f)

-- ---- the file
module _ (call : Call) (ex : Execution) (file : List ℕ) where
  long_from : {n : ℕ} {told : List ℕ} → CheckFileCause call file ex n told → n ≡ TOO_LONG
      → IsTooLong call file
  long_from (unreadable may ends) e = absurd (omega arith)
  long_from (too_long long ends) e = long
  long_from (work source (bad_line line f z)) e = absurd (omega arith)
  long_from (work source (bad_table line f z)) e = absurd (omega arith)
  long_from (work source (listed code is made c)) e = absurd (short c e)

  long_to : (m : ℕ) → IsSettled call m → {n : ℕ} {told : List ℕ}
      → CheckFileCause call file ex n told → n ≢ UNREADABLE → IsTooLong call file → n ≡ TOO_LONG
  long_to m settled (unreadable may ends) read long = absurd (read refl)
  long_to m settled (too_long also ends) read long = refl
  long_to m settled (work source w) read long =
      absurd (text_short call file m settled long source)

-- ---- any call
module _ (call : Call) (ex : Execution) (line : LineLaw) (table : TableLaw) (one : OneLaw) where
  -- a status by what holds of the file
  exactly : (s : ℕ) (Holds : List ℕ → Type 0) → s ≢ NO_MEMORY
      → ((file : List ℕ) (n : ℕ) (told : List ℕ) → CheckFileCause call file ex n told → n ≡ s
      → Holds file)
      → ((file : List ℕ) (n : ℕ) (told : List ℕ) → IsSettled call n
      → CheckFileCause call file ex n told → Holds file → n ≡ s)
      → {n : ℕ} {told : List ℕ} → Cause call ex n told → IsSettled call n
      → (n ≡ s) ↔ Checks call (λ file asked. Holds file)
  exactly s Holds other from to no_memory settled =
      (λ e. absurd (settled.decided.memory refl), λ asks. absurd (settled.decided.memory refl))
  exactly s Holds other from to {n = n} {told = told} (check is) settled = (
    λ e. record {
      file = is.file;
      asked = is.asked;
      given = is.given;
      holds = from is.file n told is.holds e;
    },
    λ asks. to is.file n told settled is.holds
        (as_asked (codes "check") CheckTakes call.words is asks),
  )

  -- that of a check that fails
  failure : (s : ℕ) (Holds : Tables → Type 0) → IsFailure s Holds → s ≢ NO_MEMORY → {n : ℕ}
      {told : List ℕ} → Cause call ex n told → IsSettled call n
      → (n ≡ s) ↔ Checks call (λ file asked. HasListing call file Holds)
  failure s Holds fail other c =
      exactly s (λ file. HasListing call file Holds) other
      (λ file n told f e. listed_from s call ex file CheckCause (of_work s Holds fail)
      (failed_from s Holds fail) f e)
      (λ file n told settled f h. listed_to s call ex file CheckCause n settled line table one
      (failed_to s Holds fail) f settled.read h) c

  pub is_exact : {n : ℕ} {told : List ℕ} → Cause call ex n told → IsExact call n
  is_exact c = record {
    too_long = exactly TOO_LONG (λ file. IsTooLong call file) (λ e. omega arith)
        (λ file n told f e. long_from call ex file f e)
        (λ file n told settled f h. long_to call ex file n settled f settled.read h) c;
    refused = exactly LISTING_REFUSED (λ file. HasNoListing call file) (λ e. omega arith)
        (λ file n told f e. listed_none call ex file CheckCause unrefused line table f e)
        (λ file n told settled f h. listed_refused call ex file CheckCause n settled h f settled.read) c;
    unsound = failure UNSOUND IsUnsound is_unsound (λ e. omega arith) c;
    too_large = failure CHECK_LIMIT IsTooLarge is_too_large (λ e. omega arith) c;
    done = exactly DONE (λ file. HasListing call file IsSoundCode) (λ e. omega arith)
        (λ file n told f e. listed_from DONE call ex file CheckCause done_work sound_from f e)
        (λ file n told settled f h. listed_to DONE call ex file CheckCause n settled line table one
        sound_to f settled.read h) c;
  }

-- A check of code passes or fails, and fails in one way.
use Rattle.std.proofs.Common.{◌≡◌, ◌≢◌, ℕ, true, false, IsTrue, List, refl, sym, ◌∙◌, arith}
use Rattle.node_form.specs.declared.tables.Tables.{Tables}
use Rattle.node_check.specs.Sound.{IsChecked}
use Rattle.call_claims.specs.declared.status.TheConstants.{DONE, UNREADABLE, TOO_LONG, REFUSED, UNBOUND}
use Rattle.call_claims.specs.declared.status.TheConstants.{USAGE, TRAPPED, TURN_LIMIT, PUT_FAILED, NO_MEMORY}
use Rattle.call_claims.specs.Command.{Asked}
use Rattle.exec_claims.specs.Cause.{CheckFails, PassesCheck}
use Rattle.exec_claims.specs.Cause.CheckFails.{unsound, too_large}
use Rattle.exec_claims.specs.Decided.{IsTooLarge, IsUnsound}
use Rattle.exec_claims.specs.declared.status.TheConstants.{CHECK_LIMIT, LISTING_REFUSED, ORDER_REFUSED}
use Rattle.exec_claims.specs.declared.status.TheConstants.{STUCK, UNSOUND}

pub checked_once : {code : Tables} {links n : ℕ} {told : List ℕ} → IsChecked code links
    → CheckFails code n told → ⊥
checked_once is (unsound at fault) = fault.1.unmet (is.sound at)
checked_once is (too_large large) = is.small large

-- where words ask for it
pub not_failed : (asked : Asked) {code : Tables} {n : ℕ} {told : List ℕ} → PassesCheck asked code
    → IsTrue asked.checked → CheckFails code n told → ⊥
not_failed asked passed asks failed = checked_once (passed asks).1 failed

-- where they don't, all code passes
pub passes_unasked : (asked : Asked) (code : Tables) → asked.checked ≡ false
    → PassesCheck asked code
passes_unasked asked code plain = λ asks. absurd (let no : false ≡ true = sym plain ∙ asks in cc)

pub fails_one : {code : Tables} {n m : ℕ} {told other : List ℕ} → CheckFails code n told
    → CheckFails code m other → n ≡ m
fails_one (unsound at fault) (unsound other also) = refl
fails_one (unsound at fault) (too_large large) = absurd (fault.0 large)
fails_one (too_large large) (unsound at fault) = absurd (fault.0 large)
fails_one (too_large large) (too_large also) = refl

-- ---- how, by the status
pub fails_unsound : {code : Tables} {n : ℕ} {told : List ℕ} → CheckFails code n told → n ≡ UNSOUND
    → IsUnsound code
fails_unsound (unsound at fault) e = (at, fault)
fails_unsound (too_large large) e = absurd (omega arith)

pub fails_large : {code : Tables} {n : ℕ} {told : List ℕ} → CheckFails code n told
    → n ≡ CHECK_LIMIT → IsTooLarge code
fails_large (unsound at fault) e = absurd (omega arith)
fails_large (too_large large) e = large

pub told_unsound : (code : Tables) → IsUnsound code → (told : List ℕ) × CheckFails code UNSOUND told
told_unsound code is = (_, unsound is.0 is.1)

pub told_large : (code : Tables) → IsTooLarge code
    → (told : List ℕ) × CheckFails code CHECK_LIMIT told
told_large code is = (_, too_large is)

-- ---- by no other status
pub record IsOther (n : ℕ) : Type 0 where
  pub done : n ≢ DONE
  pub usage : n ≢ USAGE
  pub unreadable : n ≢ UNREADABLE
  pub too_long : n ≢ TOO_LONG
  pub refused : n ≢ REFUSED
  pub unbound : n ≢ UNBOUND
  pub order : n ≢ ORDER_REFUSED
  pub trapped : n ≢ TRAPPED
  pub limit : n ≢ TURN_LIMIT
  pub put : n ≢ PUT_FAILED
  pub memory : n ≢ NO_MEMORY
  pub listing : n ≢ LISTING_REFUSED
  pub stuck : n ≢ STUCK

pub fails_other : {code : Tables} {n : ℕ} {told : List ℕ} → CheckFails code n told → IsOther n
fails_other (unsound at fault) = record {
  done = λ h. omega arith;
  usage = λ h. omega arith;
  unreadable = λ h. omega arith;
  too_long = λ h. omega arith;
  refused = λ h. omega arith;
  unbound = λ h. omega arith;
  order = λ h. omega arith;
  trapped = λ h. omega arith;
  limit = λ h. omega arith;
  put = λ h. omega arith;
  memory = λ h. omega arith;
  listing = λ h. omega arith;
  stuck = λ h. omega arith;
}
fails_other (too_large large) = record {
  done = λ h. omega arith;
  usage = λ h. omega arith;
  unreadable = λ h. omega arith;
  too_long = λ h. omega arith;
  refused = λ h. omega arith;
  unbound = λ h. omega arith;
  order = λ h. omega arith;
  trapped = λ h. omega arith;
  limit = λ h. omega arith;
  put = λ h. omega arith;
  memory = λ h. omega arith;
  listing = λ h. omega arith;
  stuck = λ h. omega arith;
}

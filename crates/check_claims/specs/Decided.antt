-- When each status comes.
use Rattle.std.specs.Prelude.{◌≡◌, ◌↔◌, ℕ}
use Rattle.node_form.specs.declared.tables.Tables.{Tables}
use Rattle.exec_claims.specs.of_node_check.Sound.{IsChecked}
use Rattle.call_claims.specs.Call.{Call}
use Rattle.call_claims.specs.Decided.{IsSettled}
use Rattle.call_claims.specs.declared.status.TheConstants.{DONE, TOO_LONG}
use Rattle.exec_claims.specs.Cause.{IsTooLong}
use Rattle.exec_claims.specs.Decided.{HasListing, HasNoListing, IsTooLarge, IsUnsound}
use Rattle.exec_claims.specs.declared.status.TheConstants.{CHECK_LIMIT, LISTING_REFUSED, UNSOUND}
use Rattle.check_claims.specs.Cause.{Checks}

-- ---- the file
-- 3: its text is too long
abbrev pub ChecksTooLong : Call → Type 0
ChecksTooLong call = Checks call (λ file asked. IsTooLong call file)

-- 11: it is no listing
abbrev pub ChecksNoListing : Call → Type 0
ChecksNoListing call = Checks call (λ file asked. HasNoListing call file)

-- ---- the listed code
-- it passes the check: it is sound, and not too large
abbrev pub IsSoundCode : Tables → Type 0
IsSoundCode code = (links : ℕ) × IsChecked code links

-- the file tells a listing, and this holds of its code
abbrev pub ChecksListing : Call → (Tables → Type 0) → Type 0
ChecksListing call Holds = Checks call (λ file asked. HasListing call file Holds)

-- ---- each status comes just where its own cause is, where it is none of 2, 9 and 10, and the files
-- tell one text a name
pub record IsExact (call : Call) (status : ℕ) : Type 0 where
  pub too_long : IsSettled call status → (status ≡ TOO_LONG) ↔ ChecksTooLong call
  pub refused : IsSettled call status → (status ≡ LISTING_REFUSED) ↔ ChecksNoListing call
  pub unsound : IsSettled call status → (status ≡ UNSOUND) ↔ ChecksListing call IsUnsound
  pub too_large : IsSettled call status → (status ≡ CHECK_LIMIT) ↔ ChecksListing call IsTooLarge
  pub done : IsSettled call status → (status ≡ DONE) ↔ ChecksListing call IsSoundCode

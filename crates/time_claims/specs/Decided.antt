-- When each status comes.
use Rattle.std.specs.Prelude.{◌≡◌, ◌⊎◌, ◌↔◌, ℕ}
use Rattle.grid_runs.specs.Run.{Run, IsLimitedAt}
use Rattle.grid_time.specs.Timed.{IsPastMoves}
use Rattle.call_claims.specs.Call.{Call}
use Rattle.call_claims.specs.Decided.{IsSettled}
use Rattle.call_claims.specs.Execution.{Execution}
use Rattle.call_claims.specs.declared.status.TheConstants.{DONE, TOO_LONG, TRAPPED, TURN_LIMIT}
use Rattle.exec_claims.specs.Cause.{IsTooLong}
use Rattle.exec_claims.specs.Decided.{HasBadOrder, HasListing, HasLongOrder, HasNoListing, HasRun}
use Rattle.exec_claims.specs.Decided.{IsDoneAt, IsStuckOrIdleAt, IsTrapAt}
use Rattle.exec_claims.specs.declared.status.TheConstants.{LISTING_REFUSED, ORDER_REFUSED, STUCK}
use Rattle.exec_claims.specs.declared.status.TheConstants.{TOO_MANY_MOVES}
use Rattle.time_claims.specs.Cause.{Times, WithFewMoves}

-- ---- the listing and the order
-- 3: the text of the file is too long; or it is a listing, and the text of the order's file is
abbrev pub TimesTooLong : Call → Type 0
TimesTooLong call = Times call (λ file asked. IsTooLong call file
    ⊎ HasListing call file (λ code. HasLongOrder call asked.order))

-- 6: it is a listing, and an item of the order is wrong
abbrev pub TimesBadOrder : Call → Type 0
TimesBadOrder call = Times call (λ file asked. HasListing call file (HasBadOrder call asked))

-- 11: it is no listing
abbrev pub TimesNoListing : Call → Type 0
TimesNoListing call = Times call (λ file asked. HasNoListing call file)

-- ---- the run
-- The listed code was run under the order that the words ask for, and this holds of the run and of
-- the turns given.
abbrev pub TimesRun : Call → Execution → (Run → ℕ → Type 0) → Type 0
TimesRun call execution Holds =
    Times call (λ file asked. HasRun call file asked execution Holds)

-- ---- each status comes just where its own cause is, where it is none of 2, 9 and 10, and the files
-- tell one text a name
pub record IsExact (call : Call) (execution : Execution) (status : ℕ) : Type 0 where
  pub too_long : IsSettled call status → (status ≡ TOO_LONG) ↔ TimesTooLong call
  pub order_refused : IsSettled call status → (status ≡ ORDER_REFUSED) ↔ TimesBadOrder call
  pub refused : IsSettled call status → (status ≡ LISTING_REFUSED) ↔ TimesNoListing call
  pub done : IsSettled call status
      → (status ≡ DONE) ↔ TimesRun call execution (WithFewMoves IsDoneAt)
  pub trap : IsSettled call status
      → (status ≡ TRAPPED) ↔ TimesRun call execution (WithFewMoves IsTrapAt)
  pub turn_limit : IsSettled call status
      → (status ≡ TURN_LIMIT) ↔ TimesRun call execution (WithFewMoves IsLimitedAt)
  pub stuck : IsSettled call status
      → (status ≡ STUCK) ↔ TimesRun call execution (WithFewMoves IsStuckOrIdleAt)
  pub too_many_moves : IsSettled call status
      → (status ≡ TOO_MANY_MOVES) ↔ TimesRun call execution IsPastMoves

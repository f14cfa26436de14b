-- Why a call of `time` has its status, and what is told of it. Up to the run that is as it is for
-- `exec`.
--
--   IsRunEnd           the statuses of how a run ended
--   WithFewMoves       what holds of a run whose moves are no more than a table takes
--   TimeCause          of the file, and of what the words ask for
--   Cause              any call of `time`
use Rattle.std.specs.Prelude.{◌≡◌, ◌⊎◌, ℕ, ◌≤◌, false, List}
use Rattle.grid_runs.specs.Run.{Run}
use Rattle.grid_time.specs.Timed.{IsPastMoves, moves_at}
use Rattle.grid_timetable.specs.Adding.{most_moves}
use Rattle.call_claims.specs.Call.{Call}
use Rattle.call_claims.specs.Command.{Asked, Asks, IsTime}
use Rattle.call_claims.specs.Execution.{Execution}
use Rattle.call_claims.specs.Texts.{no_memory_text}
use Rattle.call_claims.specs.declared.status.TheConstants.{DONE, TRAPPED, TURN_LIMIT, NO_MEMORY}
use Rattle.exec_claims.specs.Cause.{ListingFileCause, RunCause}
use Rattle.exec_claims.specs.Decided.{HasRun}
use Rattle.exec_claims.specs.Texts.{too_many_moves_text}
use Rattle.exec_claims.specs.declared.status.TheConstants.{STUCK, TOO_MANY_MOVES}

-- ---- runs
-- 0, 7, 8 and 12
abbrev pub IsRunEnd : ℕ → Type 0
IsRunEnd n = (n ≡ DONE) ⊎ ((n ≡ TRAPPED) ⊎ ((n ≡ TURN_LIMIT) ⊎ (n ≡ STUCK)))

-- this holds of a run and of the turns given, which make no more moves than a table takes
abbrev pub WithFewMoves : (Run → ℕ → Type 0) → Run → ℕ → Type 0
WithFewMoves Holds run k = Holds run k × (moves_at run k ≤ most_moves)

-- ---- time FILE
-- No run began, for the cause that `exec` has; or one ended, for the cause that `exec` has without
-- a report; or the last turn made the first move that is one too many.
pub data TimeCause (call : Call) (file : List ℕ) (asked : Asked) (execution : Execution)
    : ℕ → List ℕ → Type 0 where
  not_run : {status : ℕ} {told : List ℕ} → ListingFileCause call file asked execution status told
      → ¬ IsRunEnd status → TimeCause call file asked execution status told
  ran : {status : ℕ} {told : List ℕ}
      → HasRun call file asked execution
      (WithFewMoves (λ run k. RunCause run false k status told))
      → TimeCause call file asked execution status told
  too_many : HasRun call file asked execution IsPastMoves
      → TimeCause call file asked execution TOO_MANY_MOVES too_many_moves_text

-- The words time a listing, and this holds of its file and of what they ask for.
abbrev pub Times : Call → (List ℕ → Asked → Type 0) → Type 0
Times call = Asks IsTime call.words

-- ---- any call
-- The cause of a status, and what is told of it. A failed put is no cause of these.
pub data Cause (call : Call) (execution : Execution) : ℕ → List ℕ → Type 0 where
  no_memory : Cause call execution NO_MEMORY no_memory_text
  time : {status : ℕ} {told : List ℕ}
      → Times call (λ file asked. TimeCause call file asked execution status told)
      → Cause call execution status told

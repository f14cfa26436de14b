-- What is said of a call that traces the run of a listing. Its words are those of `exec`, and so are
-- the causes of its statuses, and when these come.
--
--   IsPlain         words of `exec` that are for a trace too
--   TakesAs         what out took, of a call that ran some code or none
--   TakesByStatus   what out took of the run's trace, by the status
--   IsTraced        what comes of the call
use Rattle.std.specs.Prelude.{◌≡◌, ◌≢◌, ◌⊎◌, ◌↔◌, ℕ, false, List, [], Option, Some, None, MatchOption}
use Rattle.zpl_io.specs.Faults.{Rose}
use Rattle.zpl_io.specs.Sink.{Takes}
use Rattle.node_form.specs.declared.tables.Tables.{Tables}
use Rattle.grid_runs.specs.Run.{Run, IsLimitedAt}
use Rattle.call_claims.specs.declared.ran.Ran.{Ran}
use Rattle.call_claims.specs.Answer.{IsAnswered, IsHalfAnswered}
use Rattle.call_claims.specs.Call.{Call}
use Rattle.call_claims.specs.Command.{Asked}
use Rattle.call_claims.specs.Decided.{IsSettled}
use Rattle.call_claims.specs.Execution.{execution_of, HasNoCounts}
use Rattle.call_claims.specs.Stream.{Stream}
use Rattle.call_claims.specs.declared.status.TheConstants.{DONE, TOO_LONG, TRAPPED}
use Rattle.call_claims.specs.declared.status.TheConstants.{TURN_LIMIT, PUT_FAILED, NO_MEMORY}
use Rattle.exec_claims.specs.Answer.{IsReadFor, Runs}
use Rattle.exec_claims.specs.Cause.{Cause, Execs}
use Rattle.exec_claims.specs.Decided.{ExecsNoListing, ExecsTooLong, ExecsBadOrder}
use Rattle.exec_claims.specs.Decided.{IsDoneAt, IsStuckOrIdleAt, IsTrapAt, RunsTo}
use Rattle.exec_claims.specs.declared.status.TheConstants.{LISTING_REFUSED, ORDER_REFUSED, STUCK}
use Rattle.trace_call.specs.Trace.{TakesLines, TakesSome, TakesTrace}

-- ---- the words
-- They ask for no check of the code, and for no saved grid.
pub record IsPlain (asked : Asked) : Type 0 where
  pub checked : asked.checked ≡ false
  pub save : asked.save ≡ false

-- ---- what out took
-- nothing where no code was run; and this holds of a run
abbrev pub TakesAs :
    (Run → Type 0) → Call → Ran → (List ℕ → Type 0) → (List ℕ → Type 0) → Option Tables → Type 0
TakesAs Holds call ran before after None = Takes before [] after
TakesAs Holds call ran before after (Some code) =
    (HasNoCounts ran × Takes before [] after)
    ⊎ Execs call (λ file asked. Runs call code asked Holds)

-- the trace of the given turns; where memory was wanting, whole lines of it
pub record TakesByStatus (run : Run) (ran : Ran) (before after : List ℕ → Type 0) : Type 0 where
  pub all : ran.status ≢ NO_MEMORY → TakesTrace run ran.turns before after
  pub lines : TakesLines run ran.turns before after

-- ---- the call
pub record IsTraced (call : Call) (ran : Ran) (out errs : Stream) : Type 0 where
  -- The code is the listed one, once that was read. It wasn't run, or it was under the order that
  -- the words ask for, and the counts are those of the grid after the given turns, before which it
  -- is neither over nor idle, and none of which is stuck.
  pub code : MatchOption ran.code (HasNoCounts ran) (IsReadFor call ran)
  -- Out took the lines of these turns, and that of the next one where it is stuck.
  pub output : ran.status ≢ PUT_FAILED
      → TakesAs (λ run. TakesByStatus run ran out.before out.after) call ran out.before out.after
      ran.code
  -- Each status but that of a failed put has its cause, and errs took its text, with the report
  -- behind it.
  pub cause : ran.status ≢ PUT_FAILED
      → IsAnswered (Cause call (execution_of ran)) ran.status errs.before errs.after
  -- When statuses come, where no put or fetch failed and memory wasn't wanting.
  pub too_long : IsSettled call ran.status
      → (ran.status ≡ TOO_LONG) ↔ ExecsTooLong call
  pub refused : IsSettled call ran.status
      → (ran.status ≡ LISTING_REFUSED) ↔ ExecsNoListing call
  pub order_refused : IsSettled call ran.status
      → (ran.status ≡ ORDER_REFUSED) ↔ ExecsBadOrder call
  pub done : IsSettled call ran.status
      → (ran.status ≡ DONE) ↔ RunsTo call (execution_of ran) IsDoneAt
  pub trap : IsSettled call ran.status
      → (ran.status ≡ TRAPPED) ↔ RunsTo call (execution_of ran) IsTrapAt
  pub turn_limit : IsSettled call ran.status
      → (ran.status ≡ TURN_LIMIT) ↔ RunsTo call (execution_of ran) IsLimitedAt
  pub stuck : IsSettled call ran.status
      → (ran.status ≡ STUCK) ↔ RunsTo call (execution_of ran) IsStuckOrIdleAt
  -- A put failed: one of out, which took a front of lines, and errs took nothing; or one of errs,
  -- once out had taken whole lines.
  pub put_failed : ran.status ≡ PUT_FAILED
      → (TakesAs (λ run. TakesSome run ran.turns out.before out.after) call ran out.before
      out.after ran.code
      × Rose out.faults out.faults_after × errs.same)
      ⊎ (TakesAs (λ run. TakesLines run ran.turns out.before out.after) call ran out.before
      out.after ran.code
      × Rose errs.faults errs.faults_after
      × IsHalfAnswered (Cause call (execution_of ran)) errs.before errs.after)

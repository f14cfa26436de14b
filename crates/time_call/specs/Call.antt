-- What is said of a call of `time`.
use Rattle.std.specs.Prelude.{◌≡◌, ◌≢◌, ◌⊎◌, ℕ, List, [], MatchOption}
use Rattle.zpl_io.specs.Faults.{Rose}
use Rattle.zpl_io.specs.Sink.{Takes}
use Rattle.call_claims.specs.declared.ran.Ran.{Ran}
use Rattle.call_claims.specs.Answer.{IsAnswered, IsHalfAnswered}
use Rattle.call_claims.specs.Call.{Call}
use Rattle.call_claims.specs.Execution.{execution_of, HasNoCounts}
use Rattle.call_claims.specs.Stream.{Stream}
use Rattle.call_claims.specs.declared.status.TheConstants.{PUT_FAILED}
use Rattle.time_claims.specs.Answer.{IsReadFor, TakesOutput, TakesTime, TakesTimeFront}
use Rattle.time_claims.specs.Cause.{Cause}
use Rattle.time_claims.specs.Decided.{IsExact}

pub record IsTimed (call : Call) (ran : Ran) (out errs : Stream) : Type 0 where
  -- The code is the listed one, once that was read. It wasn't run, or it was under the order that
  -- the words ask for, over links of any number of messages, and the counts are those of the grid
  -- after the given turns, before which it is neither over nor idle, and none of which is
  -- stuck.
  pub code : MatchOption ran.code (HasNoCounts ran) (IsReadFor call ran)
  -- Where the run is over, out took the text of its moves, of the ticks that they take at least,
  -- and of a chain as long; and else nothing.
  pub output : ran.status ≢ PUT_FAILED
      → TakesOutput call (execution_of ran) ran.status out.before out.after
  -- Each status but that of a failed put has its cause, and errs took its text.
  pub cause : ran.status ≢ PUT_FAILED
      → IsAnswered (Cause call (execution_of ran)) ran.status errs.before errs.after
  -- When each status comes.
  pub exact : ran.status ≢ PUT_FAILED → IsExact call (execution_of ran) ran.status
  -- A put failed: one of out, which took a front of the text, and errs took nothing; or one of
  -- errs, once out had taken all or nothing.
  pub put_failed : ran.status ≡ PUT_FAILED
      → (TakesTimeFront call (execution_of ran) out.before out.after
      × Rose out.faults out.faults_after × errs.same)
      ⊎ ((TakesTime call (execution_of ran) out.before out.after ⊎ Takes out.before [] out.after)
      × Rose errs.faults errs.faults_after
      × IsHalfAnswered (Cause call (execution_of ran)) errs.before errs.after)

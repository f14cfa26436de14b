-- What is said of a call of `check`.
use Rattle.std.specs.Prelude.{◌≡◌, ◌≢◌, ◌⊎◌, List, [], IfSome}
use Rattle.zpl_io.specs.Faults.{Rose}
use Rattle.zpl_io.specs.Sink.{Takes}
use Rattle.call_claims.specs.declared.ran.Ran.{Ran}
use Rattle.call_claims.specs.Answer.{IsAnswered, IsHalfAnswered}
use Rattle.call_claims.specs.Call.{Call}
use Rattle.call_claims.specs.Execution.{execution_of, HasCode, HasNoCounts}
use Rattle.call_claims.specs.Stream.{Stream}
use Rattle.call_claims.specs.declared.status.TheConstants.{PUT_FAILED}
use Rattle.check_claims.specs.Answer.{IsReadFor, TakesOutput, TakesSoundFront}
use Rattle.check_claims.specs.Cause.{Cause}
use Rattle.check_claims.specs.Decided.{IsExact}

pub record IsValidated (call : Call) (ran : Ran) (out errs : Stream) : Type 0 where
  -- Code in the answer is the listed one, and it was not run.
  pub code : IfSome ran.code (IsReadFor call)
  pub no_counts : HasNoCounts ran
  -- Out took the line that tells that the listed code is sound, and how many messages links have to
  -- hold, where the status is that of work that was done; and elsewhere nothing.
  pub output : ran.status ≢ PUT_FAILED → TakesOutput call ran.status out.before out.after
  -- Each status but that of a failed put has its cause, and errs took its text.
  pub cause : ran.status ≢ PUT_FAILED
      → IsAnswered (Cause call (execution_of ran)) ran.status errs.before errs.after
  -- When each status comes.
  pub exact : ran.status ≢ PUT_FAILED → IsExact call ran.status
  -- A put failed: one of out, which took a front of that line, and errs took nothing; or one of
  -- errs. Of sound code nothing is told there, so that out took nothing then. The code that was
  -- checked is in the answer.
  pub put_failed : ran.status ≡ PUT_FAILED
      → (TakesSoundFront call out.before out.after × HasCode (execution_of ran)
      × Rose out.faults out.faults_after × errs.same)
      ⊎ (Takes out.before [] out.after
      × Rose errs.faults errs.faults_after
      × IsHalfAnswered (Cause call (execution_of ran)) errs.before errs.after)

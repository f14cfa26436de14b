-- What is said of a call of `gen`.
use Rattle.std.specs.Prelude.{◌≡◌, ◌≢◌, ◌⊎◌, ℕ, List, MatchOption}
use Rattle.zpl_io.specs.Faults.{Rose}
use Rattle.call_claims.specs.declared.ran.Ran.{Ran}
use Rattle.call_claims.specs.Answer.{IsAnswered, IsHalfAnswered}
use Rattle.call_claims.specs.Execution.{execution_of, HasNoCounts}
use Rattle.call_claims.specs.Stream.{Stream}
use Rattle.call_claims.specs.declared.status.TheConstants.{PUT_FAILED}
use Rattle.gen_claims.specs.Answer.{IsRunFor, TakesLines, TakesLinesFront}
use Rattle.gen_claims.specs.Cause.{Cause}
use Rattle.gen_claims.specs.Decided.{IsExact}

pub record IsGenerated (words : List (List ℕ)) (ran : Ran) (out errs : Stream) : Type 0 where
  -- The code is made of the program that is drawn from the number, for the grid of the last run that
  -- was begun, and the counts are those of that grid after the given turns.
  pub code : MatchOption ran.code (HasNoCounts ran) (IsRunFor words ran)
  -- Out took a line for each run before the last one, which ended normally; with status 0 it took
  -- the last one's too, and with 4, 5 and 10 it may have, if that ended normally. The lines tell of
  -- what the drawn program means.
  pub output : ran.status ≢ PUT_FAILED
      → TakesLines words (execution_of ran) ran.status out.before out.after
  -- Each status but that of a failed put has its cause, and errs took its text.
  pub cause : ran.status ≢ PUT_FAILED
      → IsAnswered (Cause words (execution_of ran)) ran.status errs.before errs.after
  -- When statuses come.
  pub exact : ran.status ≢ PUT_FAILED → IsExact words (execution_of ran) ran.status
  -- A put failed: one of out, which took the lines before and a front of the last run's, and errs
  -- took nothing; or one of errs.
  pub put_failed : ran.status ≡ PUT_FAILED
      → (TakesLinesFront words (execution_of ran) out.before out.after
      × Rose out.faults out.faults_after × errs.same)
      ⊎ (TakesLines words (execution_of ran) ran.status out.before out.after
      × Rose errs.faults errs.faults_after
      × IsHalfAnswered (Cause words (execution_of ran)) errs.before errs.after)

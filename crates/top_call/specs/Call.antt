-- What is said of a call of `run` and of `list`, and of words that are no command; and which words
-- are which command. Of `exec` it is said by `IsExecuted` of `exec_call`, of `mean` by `IsMeant` of
-- `mean_call`, of `time` by `IsTimed` of `time_call`, of `check` by `IsValidated` of `check_call`, of
-- `resume` by `IsResumed` of `resume_call`, of `gen` by `IsGenerated` of `gen_call`.
use Rattle.std.specs.Prelude.{◌≡◌, ◌≢◌, ◌⊎◌, ℕ, IsTrue, List, [], IfSome, MatchOption, None}
use Rattle.zpl_io.specs.Faults.{Rose}
use Rattle.zpl_io.specs.Sink.{Takes, TakesFront}
use Rattle.call_claims.specs.declared.ran.Ran.{Ran}
use Rattle.call_claims.specs.Answer.{IsAnswered, IsHalfAnswered}
use Rattle.call_claims.specs.Call.{Call}
use Rattle.gen_call.specs.of_list_claims.Cause.{Cause, Lists}
use Rattle.call_claims.specs.Command.{Asked, IsCheck, IsExec, IsGen, IsList, IsMean, IsResume}
use Rattle.call_claims.specs.Command.{IsRun, IsTime, build_of}
use Rattle.call_claims.specs.Decided.{IsSettled}
use Rattle.gen_call.specs.of_list_claims.Decided.{IsExact}
use Rattle.gen_call.specs.of_list_claims.Whole.{CanList, HasListed}
use Rattle.listing_rows.specs.Listing.{listing_of}
use Rattle.gen_call.specs.of_zpl_compile.Compile.{compiled}
use Rattle.call_claims.specs.Execution.{execution_of, HasNoCounts}
use Rattle.gen_call.specs.of_list_claims.Listing.{IsMadeOf, TakesListingFront}
use Rattle.gen_call.specs.of_list_claims.Listing.{TakesOutput}
use Rattle.call_claims.specs.Stream.{Stream}
use Rattle.call_claims.specs.Texts.{usage_text}
use Rattle.call_claims.specs.declared.status.TheConstants.{PUT_FAILED, USAGE}
use Rattle.gen_call.specs.of_run_claims.Answer.{IsMadeFor, IsOutputCut, TakesPrinted}
use Rattle.gen_call.specs.of_run_claims.Cause as ran
use Rattle.gen_call.specs.of_run_claims.Decided.{IsExact as IsRunExact}
use Rattle.gen_call.specs.of_run_claims.Whole.{CanFinish, HasFinished, meant_by}

-- ---- words
abbrev pub AsksList : List (List ℕ) → Type 0
AsksList words = (file : List ℕ) × (asked : Asked) × IsList words file asked

abbrev pub AsksMean : List (List ℕ) → Type 0
AsksMean words = (file : List ℕ) × (asked : Asked) × IsMean words file asked

abbrev pub AsksRun : List (List ℕ) → Type 0
AsksRun words = (file : List ℕ) × (asked : Asked) × IsRun words file asked

abbrev pub AsksExec : List (List ℕ) → Type 0
AsksExec words = (file : List ℕ) × (asked : Asked) × IsExec words file asked

-- with the word that has the code checked
abbrev pub AsksChecked : List (List ℕ) → Type 0
AsksChecked words =
    (file : List ℕ) × (asked : Asked) × IsExec words file asked × IsTrue asked.checked

abbrev pub AsksTime : List (List ℕ) → Type 0
AsksTime words = (file : List ℕ) × (asked : Asked) × IsTime words file asked

abbrev pub AsksCheck : List (List ℕ) → Type 0
AsksCheck words = (file : List ℕ) × (asked : Asked) × IsCheck words file asked

abbrev pub AsksResume : List (List ℕ) → Type 0
AsksResume words = (file : List ℕ) × (asked : Asked) × IsResume words file asked

abbrev pub AsksGen : List (List ℕ) → Type 0
AsksGen words = (n : ℕ) × (asked : Asked) × IsGen words n asked

-- ---- run
pub record IsRan (call : Call) (answered : Ran) (out errs : Stream) : Type 0 where
  -- The code is made of the text that the file of the words tells, for the build that they ask for.
  -- It is what the program is compiled to: over all links that it is for it is right after every
  -- order of turns, some order brings it in step to each bound of the meaning, and it comes to its
  -- end in time; and it is tidy. It was not run, or it was under the order that the words ask for,
  -- and the counts are those of the grid after the given turns, before which it is neither over nor
  -- idle.
  pub code : MatchOption answered.code (HasNoCounts answered) (IsMadeFor call answered)
  -- Out took what that grid has printed.
  pub output : answered.status ≢ PUT_FAILED
      → TakesPrinted call answered out.before out.after answered.code
  -- Each status but that of a failed put has its cause, and errs took its text, with the report
  -- behind it.
  pub cause : answered.status ≢ PUT_FAILED
      → IsAnswered (ran.Cause call (execution_of answered)) answered.status errs.before errs.after
  -- When each status comes. That a processor is stuck, or that none can move, never comes.
  pub exact : answered.status ≢ PUT_FAILED
      → IsRunExact call (execution_of answered) answered.status
  -- Where the file tells an accepted program, and the turns are enough for it under the order that
  -- the words ask for, the run is over, and out took just what the program means; unless the status
  -- is 2, 9 or 10, or the files tell two texts under a name.
  pub finished : IsSettled call answered.status → (file : List ℕ) (asked : Asked)
      → IsRun call.words file asked → (n : ℕ) (can : CanFinish call file asked n)
      → HasFinished can (execution_of answered) answered.status
      × Takes out.before (meant_by can).bytes out.after
  -- A put failed: one of out, and errs took nothing, or one of errs, once out had taken all.
  pub put_failed : answered.status ≡ PUT_FAILED
      → (IsOutputCut call answered out.before out.after
      × Rose out.faults out.faults_after × errs.same)
      ⊎ (TakesPrinted call answered out.before out.after answered.code
      × Rose errs.faults errs.faults_after
      × IsHalfAnswered (ran.Cause call (execution_of answered)) errs.before errs.after)

-- ---- list
pub record IsListed (call : Call) (answered : Ran) (out errs : Stream) : Type 0 where
  -- The code is made of the text that the file of the words tells, for the build that they ask for,
  -- and was not run.
  pub code : IfSome answered.code
      (λ code. Lists call (λ file asked. IsMadeOf call file (build_of asked) code))
  pub no_counts : HasNoCounts answered
  -- Out took the listing of the code where the work was done, and nothing elsewhere.
  pub output : answered.status ≢ PUT_FAILED
      → TakesOutput answered.status (execution_of answered) out.before out.after
  -- Each status but that of a failed put has its cause, and errs took its text.
  pub cause : answered.status ≢ PUT_FAILED
      → IsAnswered (Cause call (execution_of answered)) answered.status errs.before errs.after
  -- When each status comes.
  pub exact : answered.status ≢ PUT_FAILED → IsExact call (execution_of answered) answered.status
  -- Where the file tells an accepted program, out took the listing of what it is compiled to, and
  -- all was done; unless the status is 2, 9 or 10, or the files tell two texts under a name.
  pub listed : IsSettled call answered.status → (file : List ℕ) (asked : Asked)
      → IsList call.words file asked → (can : CanList call file asked)
      → HasListed can (execution_of answered) answered.status
      × Takes out.before (listing_of (compiled (build_of asked) can.program)) out.after
  -- A put failed: one of out, which took a front of the listing, and errs took nothing; or one of
  -- errs. Of a listing that was put nothing is told, so that out took none then.
  pub put_failed : answered.status ≡ PUT_FAILED
      → (TakesListingFront (execution_of answered) out.before out.after
      × Rose out.faults out.faults_after × errs.same)
      ⊎ (Takes out.before [] out.after
      × Rose errs.faults errs.faults_after
      × IsHalfAnswered (Cause call (execution_of answered)) errs.before errs.after)

-- ---- words that are no command
pub record IsUnknown (answered : Ran) (out errs : Stream) : Type 0 where
  -- Nothing is made or run, and out is as it was.
  pub code : answered.code ≡ None
  pub no_counts : HasNoCounts answered
  pub output : out.same
  -- Errs took the text that tells so, or a put of it failed. Memory is not wanting for that.
  pub told : ((answered.status ≡ USAGE) × Takes errs.before usage_text errs.after)
      ⊎ ((answered.status ≡ PUT_FAILED) × TakesFront errs.before usage_text errs.after
      × Rose errs.faults errs.faults_after)

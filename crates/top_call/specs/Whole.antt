-- Calls that have all that they need from outside, and what they answer: what is named here, or
-- that memory was wanting.
--
--   NamesFile      the words are a command of a file
--   TellOneText    the files tell one text a name
--   AreSure        that, and they fetch without fail what the words name
--   AreThere       that, and no fetch failed; or they are sure
--   OrNoMemory     this holds, or memory was wanting
--   HasPrinted     a listing was run under an order, and out took what that has printed
--   IsWhole        what such a call answers
use Rattle.std.specs.Prelude.{◌≡◌, ◌⊎◌, ℕ, List, Some}
use Rattle.zpl_io.specs.Sink.{Takes}
use Rattle.call_claims.specs.declared.ran.Ran.{Ran}
use Rattle.call_claims.specs.declared.status.TheConstants.{NO_MEMORY}
use Rattle.call_claims.specs.Call.{Call}
use Rattle.call_claims.specs.Command.{Asked, IsCheck, IsExec, IsGen, IsList, IsMean, IsResume}
use Rattle.call_claims.specs.Command.{IsRun, IsTime, build_of}
use Rattle.call_claims.specs.Decided.{IsDecided, IsSettled}
use Rattle.call_claims.specs.Execution.{execution_of}
use Rattle.time_call.specs.of_grid_runs.Run.{grid_at}
use Rattle.listing_rows.specs.Listing.{listing_of}
use Rattle.mean_call.specs.Call.{HasMeant}
use Rattle.mean_call.specs.of_mean_claims.Whole.{CanMean}
use Rattle.gen_call.specs.of_zpl_compile.Compile.{compiled}
use Rattle.gen_call.specs.of_list_claims.Whole.{CanList, HasListed}
use Rattle.gen_call.specs.of_run_claims.Whole.{CanFinish, HasFinished, meant_by}
use Rattle.resume_call.specs.Call.{HasGoneOn}
use Rattle.resume_call.specs.of_exec_call.of_resume_claims.Whole.{CanResume}
use Rattle.check_call.specs.of_check_claims.of_exec_claims.Answer.{HasCounts}
use Rattle.check_call.specs.of_check_claims.of_exec_claims.Cause.{run_of}
use Rattle.check_call.specs.of_check_claims.of_exec_claims.Whole.{CanExecute, HasExecuted}

-- ---- words
abbrev pub NamesFile : List (List ℕ) → List ℕ → Asked → Type 0
NamesFile words file asked = IsRun words file asked
    ⊎ (IsList words file asked
    ⊎ (IsMean words file asked
    ⊎ (IsExec words file asked
    ⊎ (IsTime words file asked
    ⊎ (IsCheck words file asked
    ⊎ IsResume words file asked)))))

-- ---- files
-- they tell at most one text under each name
abbrev pub TellOneText : Call → Type 0
TellOneText call = (name text other : List ℕ) → call.tells name text → call.tells name other
    → text ≡ other

-- They tell at most one text under each name; and neither the fetch of the command's file may fail,
-- nor that of the order, where the words name one.
pub record AreSure (call : Call) (file : List ℕ) (asked : Asked) : Type 0 where
  pub one : TellOneText call
  pub file_comes : ¬ call.may_fail file
  pub order_comes : (order : List ℕ) → asked.order ≡ Some order → ¬ call.may_fail_later order

-- They tell at most one text under each name, and no fetch of the call failed; or they are sure.
-- `failed` says that a fetch did: their count of faults rose.
abbrev pub AreThere : Call → Type 0 → List ℕ → Asked → Type 0
AreThere call failed file asked = (TellOneText call × (¬ failed)) ⊎ AreSure call file asked

-- ---- answers
abbrev pub OrNoMemory : ℕ → Type 0 → Type 0
OrNoMemory status Holds = (status ≡ NO_MEMORY) ⊎ Holds

-- The listed code was run under the order, the counts are those of its grid after the given turns,
-- and out took what that grid has printed; the status is that of what came of the run.
pub record HasPrinted {call : Call} {file : List ℕ} {asked : Asked}
    (can : CanExecute call file asked) (ran : Ran) (before after : List ℕ → Type 0) : Type 0 where
  pub told : List ℕ
  pub executed : HasExecuted can (execution_of ran) ran.status told
  pub counts : HasCounts (run_of can.code asked can.order) ran
  pub printed : Takes before (grid_at (run_of can.code asked can.order) ran.turns).printed after

-- What is said of words that name a file is said where that is there, as is the order's. `failed`
-- says that a fetch failed, and `before` and `after` are what out told.
pub record IsWhole (call : Call) (ran : Ran) (failed : Type 0) (before after : List ℕ → Type 0)
    : Type 0 where
  -- No put and no fetch failed, so that each status comes just where its own cause is.
  pub settled : (file : List ℕ) (asked : Asked) → NamesFile call.words file asked
      → AreThere call failed file asked → OrNoMemory ran.status (IsSettled call ran.status)
  -- `run` of an accepted program whose meaning ends, with a bound on turns within those that are
  -- asked for, under an order of the processors: the run is over as the program means, and out took
  -- just what that prints.
  pub run : (file : List ℕ) (asked : Asked) → IsRun call.words file asked
      → AreThere call failed file asked → (n : ℕ) (can : CanFinish call file asked n)
      → OrNoMemory ran.status (HasFinished can (execution_of ran) ran.status
      × Takes before (meant_by can).bytes after)
  -- `list` of an accepted program: out took the listing of what it is compiled to, and all was
  -- done.
  pub list : (file : List ℕ) (asked : Asked) → IsList call.words file asked
      → AreThere call failed file asked → (can : CanList call file asked)
      → OrNoMemory ran.status (HasListed can (execution_of ran) ran.status
      × Takes before (listing_of (compiled (build_of asked) can.program)) after)
  -- `mean` of an accepted program that ends within the turns which are asked for: the status is
  -- that of its end, and out took just what it means.
  pub mean : (file : List ℕ) (asked : Asked) → IsMean call.words file asked
      → AreThere call failed file asked → (can : CanMean call file asked)
      → OrNoMemory ran.status (HasMeant can ran.status before after)
  -- `exec` of a listing, of code that passes the check if the words ask for one, under an order of
  -- its processors: out took what its run prints, and the status is that of what came of it.
  pub exec : (file : List ℕ) (asked : Asked) → IsExec call.words file asked
      → AreThere call failed file asked → (can : CanExecute call file asked)
      → OrNoMemory ran.status (HasPrinted can ran before after)
  -- `resume` of a saved grid, under an order of its processors: out took what its run prints from
  -- there on, and the status is that of what came of it.
  pub resume : (file : List ℕ) (asked : Asked) → IsResume call.words file asked
      → AreThere call failed file asked → (can : CanResume call file asked)
      → OrNoMemory ran.status ((told : List ℕ) × HasGoneOn can ran told before after)
  -- `gen`: no put failed, so that each status comes just where its own cause is.
  pub gen : (n : ℕ) (asked : Asked) → IsGen call.words n asked
      → OrNoMemory ran.status (IsDecided ran.status)

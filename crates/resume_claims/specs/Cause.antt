-- Why a call of `resume` has its status, and what is told of it: by the command, the files, the
-- saved grid, the order, and the run that goes on from it.
--
--   onward_run      the run from a saved grid, as the words ask for it
--   OnwardCause     of how it ended
--   GridCause, GridFileCause   of the order
--   SavedCause      of the text of a saved grid
--   ResumeCause     of its file
--   Cause           any call of `resume`
use Rattle.std.specs.Prelude.{◌≡◌, ◌≢◌, ℕ, ◌+◌, ◌<◌, ◌≤◌, Bool, true, false, List, [], ◌++◌, length}
use Rattle.std.specs.Prelude.{Option, Some, None, Ok, Err}
use Rattle.node_form.specs.declared.tables.Tables.{Tables}
use Rattle.grid_meaning.specs.Grid.{Grid, processors}
use Rattle.grid_order.specs.Reading.{reading}
use Rattle.grid_runs.specs.Run.{Run, grid_at, GoesOnTo}
use Rattle.saved_runs.specs.of_grid_save.declared.faults.SaveFault.{SaveFault}
use Rattle.saved_runs.specs.of_grid_save.declared.faults.SaveFault.TheVariants as fault
use Rattle.saved_runs.specs.of_grid_save.Fault.{Explains}
use Rattle.saved_runs.specs.of_grid_save.Saved.{IsSaved}
use Rattle.exec_claims.specs.of_call_claims.Call.{Call}
use Rattle.exec_claims.specs.of_call_claims.Execution.{Execution, HasNoRun}
use Rattle.exec_claims.specs.of_call_claims.Texts.{unreadable_text, too_long_text, no_memory_text}
use Rattle.exec_claims.specs.of_call_claims.declared.status.TheConstants.{UNREADABLE, TOO_LONG}
use Rattle.exec_claims.specs.of_call_claims.declared.status.TheConstants.{NO_MEMORY}
use Rattle.exec_claims.specs.of_call_claims.Command.{Asked, Asks, IsResume, limit_of}
use Rattle.exec_claims.specs.Cause.{RunCause, TextCause}
use Rattle.exec_claims.specs.Texts.{order_refused_text, report_text}
use Rattle.exec_claims.specs.declared.status.TheConstants.{ORDER_REFUSED, SAVE_REFUSED}
use Rattle.resume_claims.specs.Texts.{fault_text}
use Rattle.resume_claims.specs.declared.limits.TheConstants.{MOST_SAVED}

-- ---- a run that goes on
-- from a grid of the code under an order, as the words ask for it
abbrev pub onward_run : Tables → Grid → Asked → List ℕ → Run
onward_run code grid asked order =
    record {
      code = code;
      capacity = None;
      start = grid;
      order = order;
      limit = limit_of asked;
    }

-- the report after k turns of it, where one is wanted: what was counted since the first turn
abbrev pub report_from : Run → Bool → ℕ → List ℕ
report_from run false k = []
report_from run true k =
    report_text (grid_at run k).turns (grid_at run k).sends (grid_at run k).words

-- what came of the run, as of any, with the report behind it
pub record OnwardCause (run : Run) (report : Bool) (k status : ℕ) (told : List ℕ) : Type 0 where
  pub text : List ℕ
  pub cause : RunCause run false k status text
  pub reported : told ≡ text ++ report_from run report k

-- the counts go on from those of the grid
pub record Onward (run : Run) (turns : ℕ) (Holds : Run → ℕ → Type 0) : Type 0 where
  pub given : ℕ
  pub counted : turns ≡ run.start.turns + given
  pub goes_on : GoesOnTo run given
  pub holds : Holds run given

-- ---- the text of an order
-- An item of the text is wrong, the first such at this byte, and no turn was given, so that the
-- counts are the saved ones; or the run went on under the order.
pub data GridCause (code : Tables) (grid : Grid) (asked : Asked) (turns : ℕ) (text : List ℕ)
    : ℕ → List ℕ → Type 0 where
  bad_item : (at : ℕ) → reading (processors code) text ≡ Err at → turns ≡ grid.turns
      → GridCause code grid asked turns text ORDER_REFUSED (order_refused_text at)
  ran : {status : ℕ} {told : List ℕ} (order : List ℕ) → reading (processors code) text ≡ Ok order
      → Onward (onward_run code grid asked order) turns
      (λ run k. OnwardCause run asked.report k status told)
      → GridCause code grid asked turns text status told

-- The order is the empty one where no word names a file. Its fetch is not the first of the call.
abbrev pub GridFileCause :
    Call → Tables → Grid → Asked → ℕ → Option (List ℕ) → ℕ → List ℕ → Type 0
GridFileCause call code grid asked turns None = GridCause code grid asked turns []
GridFileCause call code grid asked turns (Some file) =
    TextCause call file (call.may_fail_later file) (turns ≡ grid.turns)
    (GridCause code grid asked turns)

-- ---- the text of a saved grid
-- the file tells this text, which isn't too long for one
pub record Source (call : Call) (file : List ℕ) : Type 0 where
  pub text : List ℕ
  pub told : call.tells file text
  pub short : length text ≤ MOST_SAVED

-- it tells one that is
pub record IsTooLong (call : Call) (file : List ℕ) : Type 0 where
  pub text : List ℕ
  pub told : call.tells file text
  pub long : MOST_SAVED < length text

-- it is that of no grid
abbrev pub SavesNone : List ℕ → Type 0
SavesNone text = (code : Tables) (grid : Grid) → ¬ IsSaved text code grid

pub record IsRefused (text : List ℕ) (why : SaveFault) : Type 0 where
  pub known : why ≢ fault.NoMemory
  pub explained : Explains text why
  pub none : SavesNone text

-- The text is that of no grid, and why; or it is that of one, with what came of the order and the
-- run.
pub data SavedCause (call : Call) (asked : Asked) (execution : Execution) (text : List ℕ)
    : ℕ → List ℕ → Type 0 where
  refused : (why : SaveFault) → IsRefused text why → HasNoRun execution
      → SavedCause call asked execution text SAVE_REFUSED (fault_text why)
  saved : {status : ℕ} {told : List ℕ} (code : Tables) (grid : Grid) → IsSaved text code grid
      → execution.code ≡ Some code
      → GridFileCause call code grid asked execution.turns asked.order status told
      → SavedCause call asked execution text status told

-- ---- resume FILE
-- The file can't be read, where its fetch may fail, or is too long; or there is the cause that work
-- on its text has.
pub data ResumeCause (call : Call) (file : List ℕ) (asked : Asked) (execution : Execution)
    : ℕ → List ℕ → Type 0 where
  unreadable : call.may_fail file → HasNoRun execution
      → ResumeCause call file asked execution UNREADABLE (unreadable_text file)
  too_long : IsTooLong call file → HasNoRun execution
      → ResumeCause call file asked execution TOO_LONG (too_long_text file)
  work : {status : ℕ} {told : List ℕ} (source : Source call file)
      → SavedCause call asked execution source.text status told
      → ResumeCause call file asked execution status told

-- The words resume a saved grid, and this holds of its file and of what they ask for.
abbrev pub Resumes : Call → (List ℕ → Asked → Type 0) → Type 0
Resumes call = Asks IsResume call.words

-- ---- any call
-- The cause of a status, and what is told of it. A failed put is no cause of these.
pub data Cause (call : Call) (execution : Execution) : ℕ → List ℕ → Type 0 where
  no_memory : Cause call execution NO_MEMORY no_memory_text
  resume : {status : ℕ} {told : List ℕ}
      → Resumes call (λ file asked. ResumeCause call file asked execution status told)
      → Cause call execution status told

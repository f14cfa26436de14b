-- When each status comes.
use Rattle.std.specs.Prelude.{◌≡◌, ◌⊎◌, ◌↔◌, ℕ, List, Some, Ok}
use Rattle.node_form.specs.declared.tables.Tables.{Tables}
use Rattle.grid_meaning.specs.Grid.{Grid, processors}
use Rattle.grid_order.specs.Reading.{reading}
use Rattle.grid_runs.specs.Run.{Run, IsLimitedAt}
use Rattle.saved_runs.specs.of_grid_save.Saved.{IsSaved}
use Rattle.exec_claims.specs.of_call_claims.Call.{Call}
use Rattle.exec_claims.specs.of_call_claims.Command.{Asked}
use Rattle.exec_claims.specs.of_call_claims.Decided.{IsSettled}
use Rattle.exec_claims.specs.of_call_claims.Execution.{Execution}
use Rattle.exec_claims.specs.of_call_claims.declared.status.TheConstants.{DONE, TOO_LONG, TRAPPED}
use Rattle.exec_claims.specs.of_call_claims.declared.status.TheConstants.{TURN_LIMIT}
use Rattle.exec_claims.specs.Decided.{HasBadOrder, HasLongOrder, IsOrderText}
use Rattle.exec_claims.specs.Decided.{IsDoneAt, IsStuckOrIdleAt, IsTrapAt}
use Rattle.exec_claims.specs.declared.status.TheConstants.{ORDER_REFUSED, SAVE_REFUSED, STUCK}
use Rattle.resume_claims.specs.Cause.{IsTooLong, Onward, Resumes, SavesNone, Source, onward_run}

-- ---- the saved grid and the order
-- the file tells a text, not too long, that is the saved text of a grid of the code
pub record HasSaved (call : Call) (file : List ℕ) (Holds : Tables → Type 0) : Type 0 where
  pub source : Source call file
  pub code : Tables
  pub grid : Grid
  pub saved : IsSaved source.text code grid
  pub holds : Holds code

-- 3: the text of the file is too long; or it is a saved grid, and the text of the order's file is
abbrev pub ResumesTooLong : Call → Type 0
ResumesTooLong call = Resumes call (λ file asked. IsTooLong call file
    ⊎ HasSaved call file (λ code. HasLongOrder call asked.order))

-- 6: it is a saved grid, and an item of the order is wrong, for as many processors as the code has
abbrev pub ResumesBadOrder : Call → Type 0
ResumesBadOrder call = Resumes call (λ file asked. HasSaved call file (HasBadOrder call asked))

-- 16: it is the saved text of no grid
abbrev pub ResumesNone : Call → Type 0
ResumesNone call = Resumes call (λ file asked. (source : Source call file) × SavesNone source.text)

-- ---- the run
-- The code is that of the saved grid, and its run went on under the order that the words ask for;
-- this holds of the run and of the turns that were given in it.
pub record HasGone (call : Call) (file : List ℕ) (asked : Asked) (execution : Execution)
    (Holds : Run → ℕ → Type 0) : Type 0 where
  pub source : Source call file
  pub code : Tables
  pub grid : Grid
  pub saved : IsSaved source.text code grid
  pub made : execution.code ≡ Some code
  pub text : List ℕ
  pub order_text : IsOrderText call asked.order text
  pub order : List ℕ
  pub read : reading (processors code) text ≡ Ok order
  pub onward : Onward (onward_run code grid asked order) execution.turns Holds

abbrev pub ResumesRun : Call → Execution → (Run → ℕ → Type 0) → Type 0
ResumesRun call execution Holds =
    Resumes call (λ file asked. HasGone call file asked execution Holds)

-- ---- each status comes just where its own cause is, where no put or fetch failed, memory wasn't
-- wanting, and the files tell one text a name
pub record IsExact (call : Call) (execution : Execution) (status : ℕ) : Type 0 where
  pub too_long : IsSettled call status → (status ≡ TOO_LONG) ↔ ResumesTooLong call
  pub order_refused : IsSettled call status → (status ≡ ORDER_REFUSED) ↔ ResumesBadOrder call
  pub refused : IsSettled call status → (status ≡ SAVE_REFUSED) ↔ ResumesNone call
  pub done : IsSettled call status → (status ≡ DONE) ↔ ResumesRun call execution IsDoneAt
  pub trap : IsSettled call status → (status ≡ TRAPPED) ↔ ResumesRun call execution IsTrapAt
  pub turn_limit : IsSettled call status
      → (status ≡ TURN_LIMIT) ↔ ResumesRun call execution IsLimitedAt
  pub stuck : IsSettled call status → (status ≡ STUCK) ↔ ResumesRun call execution IsStuckOrIdleAt

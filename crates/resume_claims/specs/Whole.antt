-- Calls of `resume` that have all that they need, and what they then answer.
--
--   CanResume    the files tell a saved grid, and an order of its processors
--   HasResumed   the run went on under the order, and the status is that of the run's end
use Rattle.std.specs.Prelude.{◌≡◌, ℕ, List, Some, Ok}
use Rattle.node_form.specs.declared.tables.Tables.{Tables}
use Rattle.grid_meaning.specs.Grid.{Grid, processors}
use Rattle.grid_order.specs.Reading.{reading}
use Rattle.saved_runs.specs.of_grid_save.Saved.{IsSaved}
use Rattle.exec_claims.specs.of_call_claims.Call.{Call}
use Rattle.exec_claims.specs.of_call_claims.Command.{Asked}
use Rattle.exec_claims.specs.of_call_claims.Execution.{Execution}
use Rattle.exec_claims.specs.Decided.{IsOrderText}
use Rattle.resume_claims.specs.Cause.{Onward, OnwardCause, Source, onward_run}

-- The file tells the saved text of a grid, and what the words name as an order is one for the
-- processors of its code.
pub record CanResume (call : Call) (file : List ℕ) (asked : Asked) : Type 0 where
  pub source : Source call file
  pub code : Tables
  pub grid : Grid
  pub saved : IsSaved source.text code grid
  pub order_text : List ℕ
  pub told : IsOrderText call asked.order order_text
  pub order : List ℕ
  pub read : reading (processors code) order_text ≡ Ok order

-- The run went on from the grid under the order for so many turns, before which it was neither over
-- nor idle, and the status and what is told are those of what came of it then: it is over, or all
-- turns were given, or a processor is stuck, or none can move. The counts go on from the saved ones.
pub record HasResumed {call : Call} {file : List ℕ} {asked : Asked}
    (can : CanResume call file asked) (execution : Execution) (status : ℕ) (told : List ℕ) : Type 0
  where
    pub made : execution.code ≡ Some can.code
    pub onward : Onward (onward_run can.code can.grid asked can.order) execution.turns
        (λ run k. OnwardCause run asked.report k status told)

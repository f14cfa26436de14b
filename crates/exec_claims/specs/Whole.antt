-- Calls of `exec` that have all that they need, and what they then answer.
--
--   CanExecute    the files tell a listing, whose code passes, and an order of its processors
--   HasExecuted   the listed code was run under the order, and the status is that of the run's end
use Rattle.std.specs.Prelude.{◌≡◌, ℕ, List, Some, Ok}
use Rattle.node_form.specs.declared.tables.Tables.{Tables}
use Rattle.grid_meaning.specs.Grid.{processors}
use Rattle.grid_order.specs.Reading.{reading}
use Rattle.node_text.specs.Listing.{IsListing}
use Rattle.call_claims.specs.Call.{Call}
use Rattle.call_claims.specs.Command.{Asked}
use Rattle.call_claims.specs.Execution.{Execution}
use Rattle.grid_runs.specs.Run.{GoesOnTo}
use Rattle.exec_claims.specs.Cause.{PassesCheck, RunCause, Source, run_of}
use Rattle.exec_claims.specs.Decided.{IsOrderText}

-- The file tells a listing, its code passes the check where the words ask for one, and what they
-- name as an order is one for the processors of the code.
pub record CanExecute (call : Call) (file : List ℕ) (asked : Asked) : Type 0 where
  pub source : Source call file
  pub code : Tables
  pub listing : IsListing source.text code
  pub sound : PassesCheck asked code
  pub order_text : List ℕ
  pub told : IsOrderText call asked.order order_text
  pub order : List ℕ
  pub read : reading (processors code) order_text ≡ Ok order

-- The listed code was run under the order for so many turns, before which it was neither over nor
-- idle, and none of which was stuck; and the status and what is told are those of what came of the
-- run then: it is over, or all turns were given, or a processor is stuck, or none can move.
pub record HasExecuted {call : Call} {file : List ℕ} {asked : Asked}
    (can : CanExecute call file asked) (execution : Execution) (status : ℕ) (told : List ℕ) : Type 0
  where
    pub made : execution.code ≡ Some can.code
    pub goes_on : GoesOnTo (run_of can.code asked can.order) execution.turns
    pub ended : RunCause (run_of can.code asked can.order) asked.report execution.turns status told

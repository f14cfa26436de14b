-- Calls of `run` that have all that they need, and what they then answer.
--
--   HasTurns      a program's meaning ends, and so many turns are enough for its code
--   CanFinish     the files tell an accepted program and an order, and the turns are enough
--   HasFinished   the run is over, with what the program means
use Rattle.std.specs.Prelude.{◌≡◌, ◌≢◌, ℕ, ◌≤◌, List, Some, Ok}
use Rattle.zpl_nums.specs.declared.ends.End.TheVariants.{More}
use Rattle.zpl_tree.specs.Syntax.{Program}
use Rattle.zpl_names.specs.Expansion.{shattered_loops}
use Rattle.zpl_meaning.specs.Program.{Meaning, mean_of, steps_of}
use Rattle.grid_meaning.specs.Grid.{EndsAs, Grid, processors}
use Rattle.grid_order.specs.Reading.{reading}
use Rattle.grid_runs.specs.Run.{grid_at}
use Rattle.zpl_claims.specs.Bound.{turn_bound}
use Rattle.zpl_claims.specs.Build.{Build}
use Rattle.list_claims.specs.of_zpl_compile.Compile.{compiled}
use Rattle.call_claims.specs.Call.{Call}
use Rattle.call_claims.specs.Command.{Asked, build_of, limit_of}
use Rattle.call_claims.specs.Ended.{IsStatusOf}
use Rattle.call_claims.specs.Execution.{Execution}
use Rattle.call_claims.specs.Source.{Source}
use Rattle.exec_claims.specs.Cause.{run_of}
use Rattle.exec_claims.specs.Decided.{IsOrderText}
use Rattle.list_claims.specs.Code.{IsAcceptedFor}

-- The program's meaning ends within n turns of each loop, and the bound on the turns of its code for
-- that is at most so many.
pub record HasTurns (build : Build) (program : Program) (n most : ℕ) : Type 0 where
  pub ends : (mean_of program build.settings n).ending ≢ More
  pub enough : turn_bound (compiled build program) (steps_of program build.settings)
      (shattered_loops program) n ≤ most

-- The file tells a text that has a program for what the words ask for, with turns enough; and what the
-- words name as an order is one for the processors of its code.
pub record CanFinish (call : Call) (file : List ℕ) (asked : Asked) (n : ℕ) : Type 0 where
  pub source : Source call file
  pub program : Program
  pub accepted : IsAcceptedFor source.text (build_of asked) program
  pub turns : HasTurns (build_of asked) program n (limit_of asked)
  pub order_text : List ℕ
  pub told : IsOrderText call asked.order order_text
  pub order : List ℕ
  pub read : reading (processors (compiled (build_of asked) program)) order_text ≡ Ok order

-- what it means, and its grid after so many turns
abbrev pub meant_by : {call : Call} {file : List ℕ} {asked : Asked} {n : ℕ}
    → CanFinish call file asked n → Meaning
meant_by {asked = asked} {n = n} can = mean_of can.program asked.settings n

abbrev pub grid_of : {call : Call} {file : List ℕ} {asked : Asked} {n : ℕ}
    → CanFinish call file asked n → ℕ → Grid
grid_of {asked = asked} can =
    grid_at (run_of (compiled (build_of asked) can.program) asked can.order)

-- What the program is compiled to was run under the order until it was over, with the end of what the
-- program means, and has printed all of that; and the status is that of this end.
pub record HasFinished {call : Call} {file : List ℕ} {asked : Asked} {n : ℕ}
    (can : CanFinish call file asked n) (execution : Execution) (status : ℕ) : Type 0 where
  pub made : execution.code ≡ Some (compiled (build_of asked) can.program)
  pub printed : (grid_of can execution.turns).printed ≡ (meant_by can).bytes
  pub ends : EndsAs (grid_of can execution.turns) (meant_by can).ending
  pub status_is : IsStatusOf (meant_by can).ending status

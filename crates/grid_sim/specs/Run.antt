-- What comes of a run of a simulation, by its answer. How runs end is said by `grid_runs`.
--
--   run_in    the run of a simulation under an order and a limit
--   run_to    the simulation after so many turns of a run
--   EndsRun, items_taken, TakesRun   what an answer tells
--   IsRun     what comes of a run
use Rattle.std.specs.Prelude.{◌≡◌, ◌≢◌, ℕ, ◌+◌, ◌≤◌, List, [], drop, Option, Some, None, Result, Ok, Err}
use Rattle.zpl_nums.specs.declared.ends.End.{End}
use Rattle.zpl_io.specs.Sink.{Takes}
use Rattle.node_turn.specs.Turned.{kind_told}
use Rattle.grid_meaning.specs.Action.{StuckKind as Kind}
use Rattle.grid_meaning.specs.Grid.{EndsAs, next_turn, printed_by, shown_in}
use Rattle.grid_runs.specs.Run.{Run, GoesOnTo, HasNext, IsCutOff, IsIdleAt, IsLimitedAt, IsStuckAt, grid_at, next_processor, turns_in}
use Rattle.grid_sim.specs.Simulation.{Simulation, unprinted}
use Rattle.grid_sim.specs.declared.faults.SimFault.{SimFault}
use Rattle.grid_sim.specs.declared.faults.SimFault.TheVariants as fault

abbrev pub run_in : Simulation → List ℕ → ℕ → Run
run_in sim order limit = record {
  code = sim.code;
  capacity = sim.capacity;
  start = sim.grid;
  order = order;
  limit = limit;
}

abbrev pub run_to : Run → ℕ → Simulation
run_to run k = record {
  code = run.code;
  capacity = run.capacity;
  grid = unprinted (grid_at run k);
}

-- ---- how a run ends
-- what the next turn prints, after k turns
abbrev pub prints_after : Run → ℕ → List ℕ
prints_after run k =
    let p = next_processor run k in
    printed_by p (shown_in (next_turn run.code run.capacity (grid_at run k) p))

-- the next turn is that of this processor, and stuck so; or all rest, and this is the first that
-- has not ended
abbrev pub IsStuckOrIdle : Run → ℕ → ℕ → Option Kind → Type 0
IsStuckOrIdle run k p (Some kind) = IsStuckAt run k p kind
IsStuckOrIdle run k p None = IsIdleAt run k p

-- a put fails only in a turn that prints
pub record IsCutOffAt (run : Run) (k : ℕ) : Type 0 where
  pub next : HasNext run k
  pub prints : prints_after run k ≢ []

-- The answer after k turns. At most one of these can be, want of memory aside.
abbrev pub EndsRun : Run → ℕ → Result End SimFault → Type 0
EndsRun run k (Ok ending) = EndsAs (grid_at run k) ending
EndsRun run k (Err fault.TurnLimit) = IsLimitedAt run k
EndsRun run k (Err fault.SinkFailed) = IsCutOffAt run k
EndsRun run k (Err (fault.Stuck p kind)) = IsStuckOrIdle run k p (kind_told kind)
EndsRun run k (Err fault.NoMemory) = HasNext run k

-- ---- what is gone from the order, and what a sink took
-- the item of a turn that was not given is gone too
abbrev pub stuck_taken : ℕ → Option Kind → ℕ
stuck_taken k (Some kind) = k + 1
stuck_taken k None = k

abbrev pub items_taken : ℕ → Result End SimFault → ℕ
items_taken k (Ok ending) = k
items_taken k (Err fault.TurnLimit) = k
items_taken k (Err fault.SinkFailed) = k + 1
items_taken k (Err (fault.Stuck p kind)) = stuck_taken k (kind_told kind)
items_taken k (Err fault.NoMemory) = k + 1

-- what k turns print; where a put failed, and a front of what the next one prints
abbrev pub TakesRun :
    Run → ℕ → (List ℕ → Type 0) → (List ℕ → Type 0) → Result End SimFault → Type 0
TakesRun run k before after (Err fault.SinkFailed) = IsCutOff run k before after
TakesRun run k before after answer = Takes before (grid_at run k).printed after

-- ---- what comes of a run
-- So many turns were given, before none of which the run stopped; this is left of the order.
pub record IsRun (run : Run) (new : Simulation) (left : List ℕ) (before after : List ℕ → Type 0)
    (answer : Result End SimFault) : Type 0 where
  pub turns : ℕ
  pub within : turns ≤ turns_in run
  pub goes_on : GoesOnTo run turns
  pub grid : new ≡ run_to run turns
  pub ends : EndsRun run turns answer
  pub left_is : left ≡ drop (items_taken turns answer) run.order
  pub takes : TakesRun run turns before after answer

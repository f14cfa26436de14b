-- The moves of a run as a table takes them, and what comes of a run that is timed.
--
--   history_at       the moves of the first k turns of a run, with a latency
--   moves_at         how many these are
--   IsPastMoves      the last of these turns makes the first move that is one too many
--   timed_as         how a run ended, which was timed
--   MayAddTurn, IsAddedTo   what a turn asks of the table, and makes of it
--   IsTimedRun       what comes of a run, by its answer
use Rattle.std.specs.Prelude.{◌≡◌, ℕ, ◌<◌, ◌≤◌, List, length, Option, Result, Ok, Err, ⊤}
use Rattle.zpl_nums.specs.declared.ends.End.{End}
use Rattle.grid_meaning.specs.Grid.{EndsAs, processors, system_over}
use Rattle.grid_meaning.specs.Order.{given}
use Rattle.grid_runs.specs.Run.{Run, GoesOnTo, grid_at, turns_in}
use Rattle.grid_sim.specs.Run.{EndsRun, run_to}
use Rattle.grid_sim.specs.Simulation.{Simulation}
use Rattle.grid_sim.specs.declared.faults.SimFault.{SimFault}
use Rattle.grid_sim.specs.declared.faults.SimFault.TheVariants as fault
use Rattle.grid_sim.specs.declared.turns.Told.{Told}
use Rattle.grid_sim.specs.declared.turns.Turned.{Turned}
use Rattle.grid_sim.specs.declared.turns.Turned.TheVariants as turned
use Rattle.grid_ticks.specs.Told.{history_of, told}
use Rattle.grid_timetable.specs.Adding.{MayAdd, most_moves, move_of}
use Rattle.grid_timetable.specs.History.{History, with_move}
use Rattle.grid_timetable.specs.Table.{IsTableOf}
use Rattle.grid_timetable.specs.declared.table.Table.{Table}
use Rattle.grid_time.specs.declared.faults.TimeFault.{TimeFault}
use Rattle.grid_time.specs.declared.faults.TimeFault.TheVariants as time

-- ---- the moves of a run that begins at the start of its code
abbrev pub history_at : Run → ℕ → ℕ → History
history_at run latency k =
    history_of (system_over run.code run.capacity) latency
    (given run.order (processors run.code) k)

abbrev pub moves_at : Run → ℕ → ℕ
moves_at run k =
    length (told (system_over run.code run.capacity) (given run.order (processors run.code) k))

-- the first k turns make more moves than a table takes, and fewer turns don't
pub record IsPastMoves (run : Run) (k : ℕ) : Type 0 where
  pub past : most_moves < moves_at run k
  pub first : (j : ℕ) → j < k → moves_at run j ≤ most_moves

-- ---- answers
-- how a run ended, which was timed
abbrev pub timed_as : Result End SimFault → Result End TimeFault
timed_as (Ok ending) = Ok ending
timed_as (Err fault) = Err (time.Cut fault)

-- ---- a turn
-- the move of a turn that was told may be added
abbrev pub MayAddTurn : Table → ℕ → Told → Turned → Type 0
MayAddTurn table p told turned.Moved = MayAdd table (move_of p told.sent told.took)
MayAddTurn table p told turned.Waiting = ⊤
MayAddTurn table p told turned.Over = ⊤

-- the moves with that of a turn
abbrev pub history_with : History → ℕ → Told → Turned → History
history_with history p told turned.Moved = with_move history (move_of p told.sent told.took)
history_with history p told turned.Waiting = history
history_with history p told turned.Over = history

-- the table is that of the moves with the turn's; or there are as many as it takes, and the turn is
-- a move; or memory was wanting
abbrev pub IsAddedTo : Table → History → ℕ → Told → Result (Unit {0}) TimeFault → Type 0
IsAddedTo new history p told (Ok done) = IsTableOf new (history_with history p told told.turned)
IsAddedTo new history p told (Err time.TooManyMoves) =
    (told.turned ≡ turned.Moved) × (length history.moves ≡ most_moves)
IsAddedTo new history p told (Err (time.Cut cut)) = cut ≡ fault.NoMemory

-- ---- a run
-- How it ended, by the answer. Where it ended as a run does that isn't timed, the table is that of
-- its moves. No put fails, since nothing is put.
abbrev pub EndsTimed : Run → ℕ → ℕ → Table → Result End TimeFault → Type 0
EndsTimed run latency k table (Ok ending) =
    EndsAs (grid_at run k) ending × IsTableOf table (history_at run latency k)
EndsTimed run latency k table (Err time.TooManyMoves) = IsPastMoves run k
EndsTimed run latency k table (Err (time.Cut fault.NoMemory)) = ⊤
EndsTimed run latency k table (Err (time.Cut fault.SinkFailed)) = ⊥
EndsTimed run latency k table (Err (time.Cut fault.TurnLimit)) =
    EndsRun run k (Err fault.TurnLimit) × IsTableOf table (history_at run latency k)
EndsTimed run latency k table (Err (time.Cut (fault.Stuck p kind))) =
    EndsRun run k (Err (fault.Stuck p kind)) × IsTableOf table (history_at run latency k)

-- So many turns were given, before none of which the run stopped.
pub record IsTimedRun (run : Run) (latency : ℕ) (new : Simulation) (table : Table)
    (answer : Result End TimeFault) : Type 0 where
  pub turns : ℕ
  pub within : turns ≤ turns_in run
  pub goes_on : GoesOnTo run turns
  pub grid : new ≡ run_to run turns
  pub ends : EndsTimed run latency turns table answer

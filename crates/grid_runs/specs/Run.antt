-- Runs of code: the turns of an order, and then turns round the processors, until the grid is over or
-- idle, the next turn is stuck, or so many turns were given.
--
--   Run            what is run, and how
--   grid_at        the grid after so many turns
--   Stops          there the run goes no further: all have ended, or none can move
--   GoesOnTo       it has come so far: before none of these turns did it stop, and none was stuck
--   HasNext        the run has not stopped, and there are turns left
--   IsStuckAt, IsIdleAt, IsLimitedAt   how it ends where it isn't over
--   IsCutOff       what a sink took that fails in the next turn
use Rattle.std.specs.Prelude.{◌≡◌, ◌⊎◌, ℕ, ◌+◌, ◌<◌, List, ◌++◌, length, Option, IsSome, slice_get}
use Rattle.std.specs.Option.{option_and_then}
use Rattle.zpl_lists.specs.Front.{IsFrontOf}
use Rattle.zpl_io.specs.Sink.{Takes}
use Rattle.grid_meaning.specs.of_node_form.declared.tables.Tables.{Tables}
use Rattle.grid_links.specs.Machine.{Stuck}
use Rattle.grid_meaning.specs.Action.{StuckKind}
use Rattle.grid_meaning.specs.Grid.{Grid, processors, after_from, next_turn, IsOver, IsIdle}
use Rattle.grid_meaning.specs.Order.{given, turn_number}

-- The code, how many messages a link holds at most, the grid before the first turn, the order of
-- turns, and how many turns round the processors may follow it.
pub record Run : Type 0 where
  pub code : Tables
  pub capacity : Option ℕ
  pub start : Grid
  pub order : List ℕ
  pub limit : ℕ

-- all turns that may be given
abbrev pub turns_in : Run → ℕ
turns_in run = length run.order + run.limit

-- the grid after the first k turns
abbrev pub grid_at : Run → ℕ → Grid
grid_at run k =
    after_from run.code run.capacity run.start (given run.order (processors run.code) k)

-- all have ended, or none can move
abbrev pub IsStopped : Tables → Option ℕ → Grid → Type 0
IsStopped code capacity grid = IsOver grid ⊎ IsIdle code capacity grid

abbrev pub Stops : Run → ℕ → Type 0
Stops run k = IsStopped run.code run.capacity (grid_at run k)

-- whose turn is next
abbrev pub next_processor : Run → ℕ → ℕ
next_processor run k = turn_number run.order (processors run.code) k

-- the next turn is stuck
abbrev pub IsStuckNext : Run → ℕ → Type 0
IsStuckNext run k = (kind : StuckKind)
    × (next_turn run.code run.capacity (grid_at run k) (next_processor run k) ≡ Stuck kind)

-- before none of the first k turns does it stop, and none of them is stuck
abbrev pub GoesOnTo : Run → ℕ → Type 0
GoesOnTo run k = (j : ℕ) → j < k → ¬ Stops run j × ¬ IsStuckNext run j

-- ---- how a run ends
-- after k turns the run has not stopped, and there are turns left
pub record HasNext (run : Run) (k : ℕ) : Type 0 where
  pub goes_on : ¬ Stops run k
  pub left : k < turns_in run

-- the next turn is this processor's, and stuck so
pub record IsStuckAt (run : Run) (k p : ℕ) (kind : StuckKind) : Type 0 where
  pub next : HasNext run k
  pub processor : p ≡ next_processor run k
  pub stuck : next_turn run.code run.capacity (grid_at run k) p ≡ Stuck kind

-- whether a processor has ended
abbrev pub HasEnded : Grid → ℕ → Type 0
HasEnded grid p = IsSome (option_and_then (λ local. local.ended) (slice_get grid.world.locals p))

-- the first processor that has not ended
pub record IsFirstRunning (grid : Grid) (p : ℕ) : Type 0 where
  pub there : p < length grid.world.locals
  pub running : ¬ HasEnded grid p
  pub before : (q : ℕ) → q < p → HasEnded grid q

-- no processor can move, and this is the first that has not ended
pub record IsIdleAt (run : Run) (k p : ℕ) : Type 0 where
  pub idle : IsIdle run.code run.capacity (grid_at run k)
  pub first : IsFirstRunning (grid_at run k) p

-- all turns were given, and the run has not stopped
pub record IsLimitedAt (run : Run) (k : ℕ) : Type 0 where
  pub goes_on : ¬ Stops run k
  pub all_given : k ≡ turns_in run

-- ---- what a sink took of it
-- what is printed in k turns, and a front of what the next turn prints
pub record IsCutOff (run : Run) (k : ℕ) (before after : List ℕ → Type 0) : Type 0 where
  pub front : List ℕ
  pub is_front : IsFrontOf ((grid_at run k).printed ++ front) (grid_at run (k + 1)).printed
  pub takes : Takes before ((grid_at run k).printed ++ front) after

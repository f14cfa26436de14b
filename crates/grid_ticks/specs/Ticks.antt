-- The laws of the moves that are told along an order.
--
--   TellsMoves        they are each process's moves in it
--   TellsMovesOn      a turn more tells its move, which may come next
--   TakesEqualTicks   two orders that end all processes take equally many ticks
use Rattle.std.specs.Prelude.{◌≡◌, ℕ, List, [], ◌∷◌, ◌++◌, map}
use Rattle.grid_links.specs.Machine as machine
use Rattle.grid_links.specs.Machine.{Turn, Moves, Waiting, Over, Stuck}
use Rattle.grid_links.specs.Run.{System, after, next_turn, moves_of, IsOver}
use Rattle.grid_timetable.specs.Run.{IsLeastLength}
use Rattle.grid_timetable.specs.History.{History, run_of, moves_by, with_move, CanMove}
use Rattle.grid_ticks.specs.Told.{move_told, told, history_of}

abbrev pub TellsMoves : {L M K : Type 0} → System L M K → Type 0
TellsMoves system =
    (order : List ℕ) (p : ℕ)
    → moves_by (told system order) p ≡ map (move_told p) (moves_of system order p)

-- what a turn of p makes of the moves so far
pub record GoesOn {L M : Type 0} (old new : History) (p : ℕ) (move : machine.Move L M) : Type 0
  where
    pub told : new ≡ with_move old (move_told p move)
    pub can : CanMove old (move_told p move)

abbrev pub GoesOnWith : {L M K : Type 0} → History → History → ℕ → Turn L M K → Type 0
GoesOnWith old new p (Moves move) = GoesOn old new p move
GoesOnWith old new p Waiting = new ≡ old
GoesOnWith old new p Over = new ≡ old
GoesOnWith old new p (Stuck kind) = new ≡ old

abbrev pub TellsMovesOn : {L M K : Type 0} → System L M K → Type 0
TellsMovesOn system =
    (latency : ℕ) (order : List ℕ) (p : ℕ)
    → GoesOnWith (history_of system latency order) (history_of system latency (order ++ p ∷ [])) p
    (next_turn system (after system order) p)

abbrev pub TakesEqualTicks : {L M K : Type 0} → System L M K → Type 0
TakesEqualTicks system =
    (latency : ℕ) (x y : List ℕ) (ticks others : ℕ)
    → IsOver system (after system x) → IsOver system (after system y)
    → IsLeastLength (run_of (history_of system latency x)) ticks
    → IsLeastLength (run_of (history_of system latency y)) others
    → ticks ≡ others

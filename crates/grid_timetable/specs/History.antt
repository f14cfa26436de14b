-- The moves that were added to a table, one after another.
--
--   History     how many processors there are, the latency, and the moves
--   moves_by    the moves of a processor, in order
--   run_of      the run that they are
--   CanMove     the processors of a move are there, and the message that it takes was sent
--   with_move   the move more
use Rattle.std.specs.Prelude.{ℕ, ◌<◌, ◌==◌, List, [], ◌∷◌, ◌++◌, length, Option, Some, None}
use Rattle.std.specs.List.{filter}
use Rattle.grid_timetable.specs.Run.{Move, Run, sent_at, taken_at}

pub record History : Type 0 where
  pub count : ℕ
  pub latency : ℕ
  pub moves : List Move

abbrev pub moves_by : List Move → ℕ → List Move
moves_by moves p = filter (λ move. move.processor == p) moves

abbrev pub run_of : History → Run
run_of history = record {
  count = history.count;
  latency = history.latency;
  moves = moves_by history.moves;
}

abbrev pub no_moves : ℕ → ℕ → History
no_moves count latency = record { count = count; latency = latency; moves = [] }

abbrev pub with_move : History → Move → History
with_move history move = record history { moves = history.moves ++ move ∷ [] }

-- ---- which moves may come next
abbrev pub IsBelow : ℕ → Option ℕ → Type 0
IsBelow count None = Unit {0}
IsBelow count (Some p) = p < count

-- fewer messages were taken from a link than were sent on it
abbrev pub HasMessage : Run → ℕ → Option ℕ → Type 0
HasMessage run to None = Unit {0}
HasMessage run to (Some from) = length (taken_at run from to) < length (sent_at run from to)

pub record CanMove (history : History) (move : Move) : Type 0 where
  pub processor : move.processor < history.count
  pub receiver : IsBelow history.count move.sent
  pub sender : IsBelow history.count move.took
  pub message : HasMessage (run_of history) move.processor move.took

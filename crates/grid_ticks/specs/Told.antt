-- The moves that are told along an order of turns.
--
--   move_told    what a process did on links in a move
--   turn_told    the move of a turn, where it is one
--   told         the moves of an order, one after another
--   history_of   these moves, for so many processes, with a latency
use Rattle.std.specs.Prelude.{ℕ, List, [], ◌∷◌, ◌++◌}
use Rattle.std.specs.Option.{option_map}
use Rattle.grid_links.specs.Machine as machine
use Rattle.grid_links.specs.Machine.{Turn, Moves, Waiting, Over, Stuck}
use Rattle.grid_links.specs.Run.{System, World, count_of, start_world, next_turn, given_turn}
use Rattle.grid_timetable.specs.Run.{Move}
use Rattle.grid_timetable.specs.History.{History}

abbrev pub move_told : {L M : Type 0} → ℕ → machine.Move L M → Move
move_told p move = record {
  processor = p;
  sent = option_map (λ sent. sent.0) move.sent;
  took = move.taken;
}

abbrev pub turn_told : {L M K : Type 0} → ℕ → Turn L M K → List Move
turn_told p (Moves move) = move_told p move ∷ []
turn_told p Waiting = []
turn_told p Over = []
turn_told p (Stuck kind) = []

abbrev pub told_from : {L M K : Type 0} → System L M K → World L M → List ℕ → List Move
told_from system world [] = []
told_from system world (p ∷ order) =
    turn_told p (next_turn system world p)
    ++ told_from system (given_turn system world p) order

abbrev pub told : {L M K : Type 0} → System L M K → List ℕ → List Move
told system order = told_from system (start_world system) order

abbrev pub history_of : {L M K : Type 0} → System L M K → ℕ → List ℕ → History
history_of system latency order =
    record { count = count_of system; latency = latency; moves = told system order }

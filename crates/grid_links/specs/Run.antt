-- Runs of processes over links.
--
--   System            processes, the state of each at the start, and the capacity of every link
--   World             where a run stands: the processes' states, and the messages on the links
--   start_world       the start: no message is on its way
--   next_turn         the next turn of a process in a world
--   given_turn        the world after that turn: a move changes the process's state, takes the
--                     oldest message of the link from the sender, and puts the message sent at the
--                     end of the link to the receiver; all other turns change nothing
--   after             the world after an order, which is any list of process numbers
--   moves_of          the moves that a process makes in an order, the first one first
--   shown_by, sent_by what moves show, and the messages that they send to a process
--   taken_from        how many of the moves take a message from a process
--   IsOver            each process has ended
--   IsStuck           the next turn of some process is stuck
--   Rests             the next turn of a process is waiting or over
--   IsIdle            each process rests, and not all have ended
--   laps              so many rounds of turns, each round from the first process to the last
--   all_moves         how many moves all processes make in an order
use Rattle.std.specs.Prelude.{◌≡◌, ◌⊎◌, ℕ, zero, suc, ◌<◌, ◌==◌, Bool, true, false, ◌&&◌, nat_lt, List, [], ◌∷◌, ◌++◌, length, fold, sum_by, count_by, Option, Some, None, slice_get, slice_set}
use Rattle.std.specs.List.{flat_map, range_with_len}
use Rattle.grid_links.specs.Links.{link_of, head_of, has_room, with_sent, with_taken, no_messages}
use Rattle.grid_links.specs.Machine.{Processes, Move, Turn, Moves, Waiting, Over, Stuck, Heads, Rooms, turn_of}

pub record System (L M K : Type 0) : Type 0 where
  pub processes : Processes L M K
  pub start : List L
  pub capacity : Option ℕ

pub record World (L M : Type 0) : Type 0 where
  pub locals : List L
  pub links : List (List M)

-- how many processes there are
abbrev pub count_of : {L M K : Type 0} → System L M K → ℕ
count_of system = length system.start

abbrev pub start_world : {L M K : Type 0} → System L M K → World L M
start_world system = record { locals = system.start; links = no_messages (count_of system) }

-- ---- turns
-- the oldest message of each link to a process
abbrev pub heads_at : {M : Type 0} → ℕ → List (List M) → ℕ → Heads M
heads_at count links to from = head_of count links from to

-- whether there is a link from a process to another, and it has room
abbrev pub rooms_at : {M : Type 0} → Option ℕ → ℕ → List (List M) → ℕ → Rooms
rooms_at capacity count links from to =
    nat_lt to count && has_room capacity (link_of count links from to)

-- the turn of a process in a state, and nothing where there is no such process
abbrev pub turn_or_over : {L M K : Type 0} → System L M K → World L M → ℕ → Option L → Turn L M K
turn_or_over system world p None = Over
turn_or_over system world p (Some local) =
    turn_of system.processes p local (heads_at (count_of system) world.links p)
    (rooms_at system.capacity (count_of system) world.links p)

abbrev pub next_turn : {L M K : Type 0} → System L M K → World L M → ℕ → Turn L M K
next_turn system world p = turn_or_over system world p (slice_get world.locals p)

abbrev pub links_taken : {M : Type 0} → ℕ → ℕ → Option ℕ → List (List M) → List (List M)
links_taken count p None links = links
links_taken count p (Some from) links = with_taken count links from p

abbrev pub links_sent : {M : Type 0} → ℕ → ℕ → Option (ℕ × M) → List (List M) → List (List M)
links_sent count p None links = links
links_sent count p (Some sent) links = with_sent count links p sent.0 sent.1

abbrev pub after_turn : {L M K : Type 0} → ℕ → ℕ → Turn L M K → World L M → World L M
after_turn count p (Moves move) world = record {
  locals = slice_set world.locals p move.next;
  links = links_sent count p move.sent (links_taken count p move.taken world.links);
}
after_turn count p Waiting world = world
after_turn count p Over world = world
after_turn count p (Stuck kind) world = world

abbrev pub given_turn : {L M K : Type 0} → System L M K → World L M → ℕ → World L M
given_turn system world p = after_turn (count_of system) p (next_turn system world p) world

-- ---- orders
abbrev pub after_from : {L M K : Type 0} → System L M K → World L M → List ℕ → World L M
after_from system world order = fold (given_turn system) world order

abbrev pub after : {L M K : Type 0} → System L M K → List ℕ → World L M
after system order = after_from system (start_world system) order

-- the move of a turn, where it is one of the process that is asked for
abbrev pub move_in : {L M K : Type 0} → Bool → Turn L M K → List (Move L M)
move_in true (Moves move) = move ∷ []
move_in true Waiting = []
move_in true Over = []
move_in true (Stuck kind) = []
move_in false turn = []

abbrev pub moves_from : {L M K : Type 0} → System L M K → World L M → List ℕ → ℕ → List (Move L M)
moves_from system world [] p = []
moves_from system world (q ∷ order) p =
    move_in (q == p) (next_turn system world q)
    ++ moves_from system (given_turn system world q) order p

abbrev pub moves_of : {L M K : Type 0} → System L M K → List ℕ → ℕ → List (Move L M)
moves_of system order p = moves_from system (start_world system) order p

-- ---- what moves show, send and take
abbrev pub shown_by : {L M : Type 0} → List (Move L M) → List ℕ
shown_by moves = flat_map (λ move. move.shown) moves

abbrev pub message_where : {M : Type 0} → Bool → M → List M
message_where true message = message ∷ []
message_where false message = []

abbrev pub message_to : {M : Type 0} → ℕ → Option (ℕ × M) → List M
message_to to None = []
message_to to (Some sent) = message_where (sent.0 == to) sent.1

abbrev pub sent_by : {L M : Type 0} → ℕ → List (Move L M) → List M
sent_by to moves = flat_map (λ move. message_to to move.sent) moves

abbrev pub is_from : ℕ → Option ℕ → Bool
is_from from None = false
is_from from (Some sender) = sender == from

abbrev pub taken_from : {L M : Type 0} → ℕ → List (Move L M) → ℕ
taken_from from moves = count_by (λ move. is_from from move.taken) moves

-- ---- what a world shows
abbrev pub IsOver : {L M K : Type 0} → System L M K → World L M → Type 0
IsOver system world = (p : ℕ) → p < count_of system → next_turn system world p ≡ Over

pub record IsStuck {L M K : Type 0} (system : System L M K) (world : World L M) : Type 0 where
  pub process : ℕ
  pub there : process < count_of system
  pub kind : K
  pub stuck : next_turn system world process ≡ Stuck kind

abbrev pub Rests : {L M K : Type 0} → System L M K → World L M → ℕ → Type 0
Rests system world p = (next_turn system world p ≡ Waiting) ⊎ (next_turn system world p ≡ Over)

pub record IsIdle {L M K : Type 0} (system : System L M K) (world : World L M) : Type 0 where
  pub not_over : IsOver system world → ⊥
  pub resting : (p : ℕ) → p < count_of system → Rests system world p

-- ---- rounds
-- so many rounds, each of a turn of every process from the first to the last
abbrev pub laps : ℕ → ℕ → List ℕ
laps count zero = []
laps count (suc k) = range_with_len 0 count ++ laps count k

-- how many moves all processes make
abbrev pub all_moves : {L M K : Type 0} → System L M K → List ℕ → ℕ
all_moves system order =
    sum_by (λ p. length (moves_of system order p)) (range_with_len 0 (count_of system))

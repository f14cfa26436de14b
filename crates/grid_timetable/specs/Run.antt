-- The moves of a run, by processor, and the ticks that they may stand at.
--
--   Move             what a processor did on links in a move: the receiver of the message that it
--                    sent, and the sender of the message that it took
--   Run              for so many processors the moves of each, the first one first, and the ticks
--                    that a message is on its way. Moves are numbered by processor, from 1 on
--   sent_at          the numbers of a processor's moves that send a message to another, in order
--   taken_at         the numbers of its moves that take one from another. The k-th of these takes
--                    the message that the k-th of the other's moves sent
--   IsTimetable      a tick for each move, by processor and number, that the run may keep to
--   length_of        1 plus the greatest tick, or 0 where there are no moves
--   IsLeastLength    the length of some timetable, no timetable being shorter
--   IsEarliest       a timetable in which no move stands later than in any other one
--   end_of_last      the tick behind the last move of a processor, or 0 where it has none
use Rattle.std.specs.Prelude.{◌≡◌, ℕ, zero, suc, ◌+◌, ◌<◌, ◌≤◌, ◌==◌, max, Bool, false, cond, List, [], ◌∷◌, length, Option, Some, None, slice_get}

pub record Move : Type 0 where
  pub processor : ℕ
  pub sent : Option ℕ
  pub took : Option ℕ

pub record Run : Type 0 where
  pub count : ℕ
  pub latency : ℕ
  pub moves : ℕ → List Move

-- ---- messages
abbrev pub is_named : ℕ → Option ℕ → Bool
is_named p None = false
is_named p (Some q) = q == p

abbrev pub sends_to : ℕ → Move → Bool
sends_to to move = is_named to move.sent

abbrev pub takes_from : ℕ → Move → Bool
takes_from from move = is_named from move.took

-- the numbers of the moves that pass a test, where the first one has this number
abbrev pub numbers_from : (Move → Bool) → ℕ → List Move → List ℕ
numbers_from test n [] = []
numbers_from test n (move ∷ moves) =
    cond (test move) (n ∷ numbers_from test (suc n) moves) (numbers_from test (suc n) moves)

abbrev pub sent_at : Run → ℕ → ℕ → List ℕ
sent_at run from to = numbers_from (sends_to to) 1 (run.moves from)

abbrev pub taken_at : Run → ℕ → ℕ → List ℕ
taken_at run from to = numbers_from (takes_from from) 1 (run.moves to)

-- ---- timetables
-- A processor's next move stands at least 1 after the one before; and a move that takes a message
-- at least 1 plus the latency after the one that sent it.
pub record IsTimetable (run : Run) (tick : ℕ → ℕ → ℕ) : Type 0 where
  pub one_by_one : (p j : ℕ) → 1 ≤ j → j < length (run.moves p) → tick p j + 1 ≤ tick p (j + 1)
  pub delivered : (from to k i j : ℕ) → slice_get (sent_at run from to) k ≡ Some i
      → slice_get (taken_at run from to) k ≡ Some j → tick from i + 1 + run.latency ≤ tick to j

-- 1 plus the greatest tick of the first so many moves of a processor; 0 of none
abbrev pub end_of : (ℕ → ℕ) → ℕ → ℕ
end_of tick zero = 0
end_of tick (suc j) = max (end_of tick j) (tick (suc j) + 1)

-- the greatest that a function gives for a processor; 0 for none
abbrev pub greatest : (ℕ → ℕ) → ℕ → ℕ
greatest f zero = 0
greatest f (suc p) = max (greatest f p) (f p)

abbrev pub length_of : Run → (ℕ → ℕ → ℕ) → ℕ
length_of run tick = greatest (λ p. end_of (tick p) (length (run.moves p))) run.count

pub record IsLeastLength (run : Run) (ticks : ℕ) : Type 0 where
  pub tick : ℕ → ℕ → ℕ
  pub timetable : IsTimetable run tick
  pub length_is : ticks ≡ length_of run tick
  pub least : (other : ℕ → ℕ → ℕ) → IsTimetable run other → ticks ≤ length_of run other

pub record IsEarliest (run : Run) (tick : ℕ → ℕ → ℕ) : Type 0 where
  pub timetable : IsTimetable run tick
  pub earliest : (other : ℕ → ℕ → ℕ) → IsTimetable run other
      → (p j : ℕ) → 1 ≤ j → j ≤ length (run.moves p) → tick p j ≤ other p j

-- the tick behind move number j; 0 where there is no move
abbrev pub behind : (ℕ → ℕ) → ℕ → ℕ
behind tick zero = 0
behind tick (suc j) = tick (suc j) + 1

abbrev pub end_of_last : Run → (ℕ → ℕ → ℕ) → ℕ → ℕ
end_of_last run tick p = behind (tick p) (length (run.moves p))

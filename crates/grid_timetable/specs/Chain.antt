-- Chains of moves, each of which waits for the one before.
--
--   IsSegment       consecutive moves of one processor
--   Follows         the first move of one segment takes the message that the last one of another
--                   sent
--   IsChain         segments of which each later one follows the one before
--   chain_length    its moves, and the latency between each two segments
--   StandsBehind    a segment's tick is that of the one before, with that one's moves and the
--                   latency
--   IsTimed         the first segment is at tick 0, and each later one stands behind the one before
--   IsEnd           the last move of the least processor whose last move ends at so many ticks
--   IsLongestChain  a chain as long as the shortest timetable
use Rattle.std.specs.Prelude.{◌≡◌, ◌≢◌, ℕ, ◌+◌, ◌-◌, ◌*◌, ◌<◌, ◌≤◌, List, [], ◌∷◌, length, All, sum_by}
use Rattle.grid_timetable.specs.declared.segments.Segment.{Segment}
use Rattle.grid_timetable.specs.Run.{Run, sent_at, taken_at, IsEarliest, IsLeastLength, end_of_last}
use Rattle.std.specs.Prelude.{Some, slice_get}

pub record IsSegment (run : Run) (segment : Segment) : Type 0 where
  pub numbered : 1 ≤ segment.first
  pub some : segment.first ≤ segment.last
  pub there : segment.last ≤ length (run.moves segment.processor)

pub record Follows (run : Run) (earlier later : Segment) : Type 0 where
  pub message : ℕ
  pub sent : slice_get (sent_at run earlier.processor later.processor) message ≡ Some earlier.last
  pub taken : slice_get (taken_at run earlier.processor later.processor) message ≡ Some later.first

-- what holds of each two neighbours
abbrev pub Joined : (Segment → Segment → Type 0) → List Segment → Type 0
Joined P [] = Unit {0}
Joined P (segment ∷ []) = Unit {0}
Joined P (segment ∷ next ∷ rest) = P segment next × Joined P (next ∷ rest)

pub record IsChain (run : Run) (chain : List Segment) : Type 0 where
  pub each : All (IsSegment run) chain
  pub joined : Joined (Follows run) chain

-- ---- lengths
abbrev pub moves_in : Segment → ℕ
moves_in segment = segment.last + 1 - segment.first

abbrev pub chain_length : ℕ → List Segment → ℕ
chain_length latency chain = sum_by moves_in chain + latency * (length chain - 1)

-- ---- ticks
abbrev pub StandsBehind : ℕ → Segment → Segment → Type 0
StandsBehind latency earlier later = later.tick ≡ earlier.tick + moves_in earlier + latency

abbrev pub BeginsAtZero : List Segment → Type 0
BeginsAtZero [] = Unit {0}
BeginsAtZero (segment ∷ rest) = segment.tick ≡ 0

pub record IsTimed (latency : ℕ) (chain : List Segment) : Type 0 where
  pub begins : BeginsAtZero chain
  pub later : Joined (StandsBehind latency) chain

-- ---- the end
abbrev pub AtLast : (Segment → Type 0) → List Segment → Type 0
AtLast P [] = Unit {0}
AtLast P (segment ∷ []) = P segment
AtLast P (segment ∷ next ∷ rest) = AtLast P (next ∷ rest)

-- where every move is made as early as may be, this is the last move of its processor, it ends at
-- so many ticks, and that of no lower processor does
pub record IsEnd (run : Run) (ticks : ℕ) (segment : Segment) : Type 0 where
  pub tick : ℕ → ℕ → ℕ
  pub earliest : IsEarliest run tick
  pub last : segment.last ≡ length (run.moves segment.processor)
  pub ends : end_of_last run tick segment.processor ≡ ticks
  pub least : (p : ℕ) → p < segment.processor → end_of_last run tick p ≢ ticks

-- a chain as long as the shortest timetable
pub record IsLongestChain (run : Run) (chain : List Segment) : Type 0 where
  pub ticks : ℕ
  pub least : IsLeastLength run ticks
  pub is_chain : IsChain run chain
  pub length_is : chain_length run.latency chain ≡ ticks
  pub timed : IsTimed run.latency chain
  pub ends : AtLast (IsEnd run ticks) chain

-- The laws of deterministic processes over links: what holds after every order of turns, by what
-- holds after one.
--
--   system_of    processes by what each does (act), what messages do to it (fed), the state of each
--                at the start, and the capacity of every link (none: any number of messages)
--   Reaches      an order after which each process has ended, waits or has made so many moves, and
--                none is stuck
--   Begins       what the processes do in one order begins what they do in another
--   Dominates, NeverStuck, NeverIdle, FitsCapacity and CarriesReach, EndsAlike, EndsInLaps
--                the five laws
--   GoesOn, KeepsCapacity, KeepsMessages, CountsMoves
--                what orders keep
use Rattle.std.specs.Prelude.{◌≡◌, ◌⊎◌, ℕ, ◌+◌, ◌*◌, ◌<◌, ◌≤◌, List, [], ◌∷◌, ◌++◌, length, drop, All, Option, Some, None}
use Rattle.zpl_lists.specs.Front.{IsFrontOf}
use Rattle.grid_links.specs.Machine.{Act, Fed}
use Rattle.grid_links.specs.Links.{IsWithin, link_of}
use Rattle.grid_links.specs.Run.{System, count_of, next_turn, given_turn, after, after_from, moves_of, all_moves, shown_by, sent_by, taken_from, IsOver, IsStuck, Rests, IsIdle, laps}

abbrev pub system_of : {L M K : Type 0} → (ℕ → L → Act L M K) → (ℕ → L → M → Fed L K)
    → List L → Option ℕ → System L M K
system_of act fed start capacity =
    record { processes = record { act = act; fed = fed }; start = start; capacity = capacity }

-- After the order each process has ended, waits, or has made at least so many moves; and none is
-- stuck.
pub record Reaches {L M K : Type 0} (system : System L M K) (order : List ℕ) (many : ℕ)
    : Type 0 where
  pub moved : (p : ℕ) → p < count_of system
      → Rests system (after system order) p ⊎ (many ≤ length (moves_of system order p))
  pub not_stuck : IsStuck system (after system order) → ⊥

-- The moves of each process in one order begin its moves in the other; so do the bytes that it
-- shows, and the messages that it sends to each process.
pub record Begins {L M K : Type 0} (system : System L M K) (front whole : List ℕ) : Type 0 where
  pub moves : (p : ℕ) → IsFrontOf (moves_of system front p) (moves_of system whole p)
  pub shown : (p : ℕ)
      → IsFrontOf (shown_by (moves_of system front p)) (shown_by (moves_of system whole p))
  pub sent : (from to : ℕ)
      → IsFrontOf (sent_by to (moves_of system front from)) (sent_by to (moves_of system whole from))

-- ---- 1: an order that reaches so many moves dominates every order of at most so many turns
abbrev pub Dominates : {L M K : Type 0} → System L M K → Type 0
Dominates system =
    (x w : List ℕ) (many : ℕ) → Reaches system x many → length w ≤ many → Begins system w x

-- ---- 2: after no order of at most so many turns is a process stuck; nor are all at rest with
-- one not ended, if under x they aren't, or a process makes more moves there than the order has
-- turns
abbrev pub NeverStuck : {L M K : Type 0} → System L M K → Type 0
NeverStuck system =
    (x w : List ℕ) (many : ℕ) → Reaches system x many → length w ≤ many
    → IsStuck system (after system w) → ⊥

abbrev pub NeverIdle : {L M K : Type 0} → System L M K → Type 0
NeverIdle system =
    (x w : List ℕ) (many : ℕ) → Reaches system x many → length w ≤ many
    → (IsIdle system (after system x) → (p : ℕ) × (length w < length (moves_of system x p)))
    → IsIdle system (after system w) → ⊥

-- ---- 3: a run over links of any number of messages, in which no link ever holds more than C,
-- is, turn for turn, the run over links of capacity C
abbrev pub with_capacity : {L M K : Type 0} → System L M K → Option ℕ → System L M K
with_capacity system capacity = record system { capacity = capacity }

-- after no front of the order does a link hold more than so many messages
abbrev pub HoldsAtMost : {L M K : Type 0} → System L M K → List ℕ → ℕ → Type 0
HoldsAtMost system order most =
    (front : List ℕ) → IsFrontOf front order
    → All (λ link. length link ≤ most) (after system front).links

-- the same worlds after each front of the order, the same turns on the way, and the same moves
pub record IsSameRun {L M K : Type 0} (one other : System L M K) (order : List ℕ) : Type 0 where
  pub worlds : (front : List ℕ) → IsFrontOf front order → after one front ≡ after other front
  pub turns : (front : List ℕ) (p : ℕ) → IsFrontOf (front ++ p ∷ []) order
      → next_turn one (after one front) p ≡ next_turn other (after other front) p
  pub moves : (p : ℕ) → moves_of one order p ≡ moves_of other order p

abbrev pub FitsCapacity : {L M K : Type 0} → System L M K → Type 0
FitsCapacity system =
    (order : List ℕ) (most : ℕ) → HoldsAtMost (with_capacity system None) order most
    → IsSameRun (with_capacity system (Some most)) (with_capacity system None) order

-- the one reaches under the order as many moves as the other, and has ended where the other has.
-- The turns after the order may differ: where the other sends, the one may wait for room.
pub record ReachesAsMuch {L M K : Type 0} (one other : System L M K) (order : List ℕ)
    : Type 0 where
  pub reaches : (many : ℕ) → Reaches other order many → Reaches one order many
  pub over : IsOver other (after other order) → IsOver one (after one order)

abbrev pub CarriesReach : {L M K : Type 0} → System L M K → Type 0
CarriesReach system =
    (order : List ℕ) (most : ℕ) → HoldsAtMost (with_capacity system None) order most
    → ReachesAsMuch (with_capacity system (Some most)) (with_capacity system None) order

-- ---- 4: two orders after which all have ended have the same moves of each process, and end in
-- the same world: the same states, and the same messages on each link
pub record EndAlike {L M K : Type 0} (system : System L M K) (x y : List ℕ) : Type 0 where
  pub moves : (p : ℕ) → moves_of system x p ≡ moves_of system y p
  pub world : after system x ≡ after system y

abbrev pub EndsAlike : {L M K : Type 0} → System L M K → Type 0
EndsAlike system =
    (x y : List ℕ) → IsOver system (after system x) → IsOver system (after system y)
    → EndAlike system x y

-- ---- 5: where x ends all, so does every order with as many rounds behind it as x has moves
-- more, whatever turns come then
abbrev pub EndsInLaps : {L M K : Type 0} → System L M K → Type 0
EndsInLaps system =
    (x w more : List ℕ) (rounds : ℕ) → IsOver system (after system x)
    → all_moves system x ≤ all_moves system w + rounds
    → IsOver system (after system (w ++ laps (count_of system) rounds ++ more))

-- ---- what orders keep
-- the world and the moves after an order and more turns are what the further turns make of them
pub record GoesOn {L M K : Type 0} (system : System L M K) : Type 0 where
  pub turn : (order : List ℕ) (p : ℕ)
      → after system (order ++ p ∷ []) ≡ given_turn system (after system order) p
  pub turns : (order more : List ℕ)
      → after system (order ++ more) ≡ after_from system (after system order) more
  pub moves : (order more : List ℕ) (p : ℕ)
      → IsFrontOf (moves_of system order p) (moves_of system (order ++ more) p)

-- no link ever holds more messages than its capacity
abbrev pub KeepsCapacity : {L M K : Type 0} → System L M K → Type 0
KeepsCapacity system = (order : List ℕ) → All (IsWithin system.capacity) (after system order).links

-- on the link from one process to another are the messages that the one sent to the other, the
-- oldest first, without as many of the first as the other took from the one; and no more were taken
-- than were sent
pub record KeepsMessages {L M K : Type 0} (system : System L M K) : Type 0 where
  pub link : (order : List ℕ) (from to : ℕ) → from < count_of system → to < count_of system
      → link_of (count_of system) (after system order).links from to
      ≡ drop (taken_from from (moves_of system order to)) (sent_by to (moves_of system order from))
  pub taken : (order : List ℕ) (from to : ℕ) → from < count_of system → to < count_of system
      → taken_from from (moves_of system order to)
      ≤ length (sent_by to (moves_of system order from))

-- a process makes no more moves than an order has turns; and where none makes more than so many,
-- all together make at most that many times how many there are
pub record CountsMoves {L M K : Type 0} (system : System L M K) : Type 0 where
  pub each : (order : List ℕ) (p : ℕ) → length (moves_of system order p) ≤ length order
  pub all : (order : List ℕ) (most : ℕ)
      → ((p : ℕ) → p < count_of system → length (moves_of system order p) ≤ most)
      → all_moves system order ≤ count_of system * most

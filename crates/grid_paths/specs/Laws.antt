-- The laws of paths: some order leads from scene to scene, over links of every capacity.
--
--   RunsAlone     a process that has a path goes along it, while all others stay
--   RunsInTurn    a round: each process goes along its path, one process after another
--   Composes      an order and one behind it, and scenes that agree
--   StaysStuck    who is stuck makes no more moves
--   HoldsAsMuch   an order of moves over links of some capacity is one over links of any number of
--                 messages, on which no more are ever held
--   ReachesFrom   what an order from the start comes to: an order by which the laws of every order
--                 hold (`Reaches`)
--   Halts         where some stay away from an exchange up a tree, all others come to wait
use Rattle.std.specs.Prelude.{◌≡◌, ◌⊎◌, ℕ, ◌+◌, ◌<◌, ◌≤◌, ◌==◌, List, [], ◌++◌, Bool, length, Some, None, if◌then◌else◌}
use Rattle.zpl_lists.specs.Front.{IsFrontOf}
use Rattle.grid_links.specs.Laws.{Reaches, HoldsAtMost, with_capacity}
use Rattle.grid_links.specs.Links.{IsWithin}
use Rattle.grid_links.specs.Machine.{Ended, Stuck}
use Rattle.grid_links.specs.Run.{System, count_of, start_world, next_turn, after, moves_of, shown_by, IsOver, IsStuck}
use Rattle.grid_paths.specs.Path.{Event, IsPath, messages_to, messages_from, shown_in, NamesOthers}
use Rattle.grid_paths.specs.Scene.{Scene, HasScene, Agrees, OnlyMoves, Leads, MovesIn, RestsIn}
use Rattle.grid_paths.specs.Tree.{Tree, Halting, Halted}

-- ---- 1: one process
-- the scene in which p has come to another state and has sent what its events say, and so much is
-- left on the links to it
abbrev pub alone_after : {L M : Type 0} → ℕ → L → List (Event M) → (ℕ → List M) → Scene L M
    → Scene L M
alone_after p local events left scene = record {
  locals = λ q. if p == q then local else scene.locals q;
  links = λ from to.
      if p == from then scene.links from to ++ messages_to to events
      else (if p == to then left from else scene.links from to);
}

-- what p's events find on the links, and the room that they need
pub record Finds {L M K : Type 0} (system : System L M K) (p : ℕ) (events : List (Event M))
    (left : ℕ → List M) (scene : Scene L M) : Type 0 where
  pub inside : p < count_of system
  pub named : NamesOthers (count_of system) p events
  pub heads : (q : ℕ) → q < count_of system → scene.links q p ≡ messages_from q events ++ left q
  pub rooms : (q : ℕ) → q < count_of system
      → IsWithin system.capacity (scene.links p q ++ messages_to q events)

-- the moves of p alone, and the bytes that they show
abbrev pub many_for : ℕ → ℕ → ℕ → ℕ
many_for p many q = if p == q then many else 0

abbrev pub shown_for : ℕ → List ℕ → ℕ → List ℕ
shown_for p bytes q = if p == q then bytes else []

abbrev pub RunsAlone : {L M K : Type 0} → System L M K → Type 0
RunsAlone {L = L} {M = M} system =
    (p : ℕ) (events : List (Event M)) (left : ℕ → List M) (scene : Scene L M) (local : L)
    → IsPath system.processes p (scene.locals p) events local → Finds system p events left scene
    → Leads system scene (alone_after p local events left scene) (many_for p (length events))
    (shown_for p (shown_in events))

-- ---- 2: each process once, one after another
-- in which order: which process is the k-th one, and at what place a process comes
pub record IsOnceEach (count : ℕ) (at place : ℕ → ℕ) : Type 0 where
  pub at_below : (k : ℕ) → k < count → at k < count
  pub place_below : (p : ℕ) → p < count → place p < count
  pub place_at : (k : ℕ) → k < count → place (at k) ≡ k
  pub at_place : (p : ℕ) → p < count → at (place p) ≡ p

-- Each goes along its path. On each link, what was on it and is sent is what is taken and what is
-- on it then, and there is room for what was on it and is sent; and a process that comes before the
-- sender takes no more than was on the link.
pub record Round {L M K : Type 0} (system : System L M K) (place : ℕ → ℕ)
    (events : ℕ → List (Event M)) (one other : Scene L M) : Type 0 where
  pub path : (p : ℕ) → p < count_of system
      → IsPath system.processes p (one.locals p) (events p) (other.locals p)
  pub named : (p : ℕ) → p < count_of system → NamesOthers (count_of system) p (events p)
  pub balance : (from to : ℕ) → from < count_of system → to < count_of system
      → one.links from to ++ messages_to to (events from)
      ≡ messages_from from (events to) ++ other.links from to
  pub early : (from to : ℕ) → from < count_of system → to < count_of system
      → place to < place from
      → length (messages_from from (events to)) ≤ length (one.links from to)
  pub rooms : (from to : ℕ) → from < count_of system → to < count_of system
      → IsWithin system.capacity (one.links from to ++ messages_to to (events from))

abbrev pub RunsInTurn : {L M K : Type 0} → System L M K → Type 0
RunsInTurn {L = L} {M = M} system =
    (at place : ℕ → ℕ) (events : ℕ → List (Event M)) (one other : Scene L M)
    → IsOnceEach (count_of system) at place → Round system place events one other
    → Leads system one other (λ p. length (events p)) (λ p. shown_in (events p))

-- ---- 3: one order behind another
pub record Composes {L M K : Type 0} (system : System L M K) : Type 0 where
  pub nowhere : (one other : Scene L M) → Agrees (count_of system) one other
      → Leads system one other (λ p. 0) (λ p. [])
  pub through : (one two three : Scene L M) (many more : ℕ → ℕ) (shown told : ℕ → List ℕ)
      → Leads system one two many shown → Leads system two three more told
      → Leads system one three (λ p. many p + more p) (λ p. shown p ++ told p)
  pub agreed : (one other near far : Scene L M) (many same : ℕ → ℕ) (shown told : ℕ → List ℕ)
      → Agrees (count_of system) near one → Agrees (count_of system) other far
      → ((p : ℕ) → p < count_of system → many p ≡ same p)
      → ((p : ℕ) → p < count_of system → shown p ≡ told p)
      → Leads system one other many shown → Leads system near far same told

-- ---- 4: nobody is stuck on the way to where nobody is stuck
abbrev pub StaysStuck : {L M K : Type 0} → System L M K → Type 0
StaysStuck {K = K} system =
    (order more : List ℕ) (p : ℕ) (kind : K) → p < count_of system
    → next_turn system (after system order) p ≡ Stuck kind
    → (next_turn system (after system (order ++ more)) p ≡ Stuck kind)
    × (moves_of system (order ++ more) p ≡ moves_of system order p)

-- ---- 5: over links of any number of messages
abbrev pub HoldsAsMuch : {L M K : Type 0} → System L M K → Type 0
HoldsAsMuch system =
    (order : List ℕ) (most : ℕ)
    → OnlyMoves (with_capacity system (Some most)) (start_world system) order
    → OnlyMoves (with_capacity system None) (start_world system) order
    × HoldsAtMost (with_capacity system None) order most

-- ---- 6: from the start on
-- Each process rests in the scene, or it has made so many moves and its next turn is one more.
abbrev pub HasCome : {L M K : Type 0} → System L M K → Scene L M → (ℕ → ℕ) → ℕ → Type 0
HasCome system scene many least =
    (p : ℕ) → p < count_of system
    → RestsIn system scene p ⊎ ((least ≤ many p) × MovesIn system scene p)

pub record Reached {L M K : Type 0} (system : System L M K) (other : Scene L M) (many : ℕ → ℕ)
    (shown : ℕ → List ℕ) (least : ℕ) : Type 0 where
  pub order : List ℕ
  pub only_moves : OnlyMoves system (start_world system) order
  pub reaches : Reaches system order least
  pub arrives : HasScene (count_of system) (after system order) other
  pub moved : (p : ℕ) → p < count_of system → length (moves_of system order p) ≡ many p
  pub shows : (p : ℕ) → p < count_of system → shown_by (moves_of system order p) ≡ shown p
  pub on_the_way : (front : List ℕ) → IsFrontOf front order
      → IsStuck system (after system front) → ⊥
  pub over : ((p : ℕ) → p < count_of system
      → system.processes.act p (other.locals p) ≡ Ended) → IsOver system (after system order)

abbrev pub ReachesFrom : {L M K : Type 0} → System L M K → Type 0
ReachesFrom {L = L} {M = M} system =
    (one other : Scene L M) (many : ℕ → ℕ) (shown : ℕ → List ℕ) (least : ℕ)
    → HasScene (count_of system) (start_world system) one → Leads system one other many shown
    → HasCome system other many least → Reached system other many shown least

-- ---- 7: where some stay away
abbrev pub Halts : {L M K : Type 0} → System L M K → Type 0
Halts {L = L} {M = M} system =
    (tree : Tree) (message : ℕ → M) (away : ℕ → Bool) (bytes : ℕ → List (List ℕ))
    (one : Scene L M) (on : ℕ → L) → Halting system tree message away bytes one on
    → Halted system away bytes one on

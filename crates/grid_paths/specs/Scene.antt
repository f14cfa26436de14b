-- Worlds told by functions of the processes' numbers, and what some order makes of them.
--
--   Scene       the state of each process, and what is on each link
--   HasScene    the states and the links of a world are the scene's
--   Agrees      two scenes are the same, as far as there are processes
--   OnlyMoves   each turn of an order is a move
--   ComesTo     an order of moves after which the world has the scene, with so many of each process
--               and the bytes that they show
--   Leads       each world with the one scene comes so to the other
--   IsReady     the links of a scene have what an event needs: room, or the message as the oldest
--   MovesIn     the next turn of a process in the scene is a move
--   WaitsIn     it awaits a message on an empty link
--   RestsIn     its next turn is none: it has ended, awaits a message, or would send on a full link
use Rattle.std.specs.Prelude.{◌≡◌, ℕ, ◌*◌, ◌<◌, true, false, List, [], ◌∷◌, length, Option, Some, slice_get}
use Rattle.grid_links.specs.Links.{link_of, has_room}
use Rattle.grid_links.specs.Machine.{Ended, Goes, Awaits, Move, Moves}
use Rattle.grid_links.specs.Run.{System, World, count_of, next_turn, given_turn, after_from, moves_from, shown_by}
use Rattle.grid_paths.specs.Path.{Event, Quiet, Sent, Taken, IsStep}

pub record Scene (L M : Type 0) : Type 0 where
  pub locals : ℕ → L
  pub links : ℕ → ℕ → List M

pub record HasScene {L M : Type 0} (count : ℕ) (world : World L M) (scene : Scene L M)
    : Type 0 where
  pub size : length world.locals ≡ count
  pub many : length world.links ≡ count * count
  pub local : (p : ℕ) → p < count → slice_get world.locals p ≡ Some (scene.locals p)
  pub link : (from to : ℕ) → from < count → to < count
      → link_of count world.links from to ≡ scene.links from to

pub record Agrees {L M : Type 0} (count : ℕ) (one other : Scene L M) : Type 0 where
  pub local : (p : ℕ) → p < count → one.locals p ≡ other.locals p
  pub link : (from to : ℕ) → from < count → to < count → one.links from to ≡ other.links from to

-- ---- from one scene to another
abbrev pub OnlyMoves : {L M K : Type 0} → System L M K → World L M → List ℕ → Type 0
OnlyMoves system world [] = Unit {0}
OnlyMoves {L = L} {M = M} system world (p ∷ order) =
    (move : Move L M) × (next_turn system world p ≡ Moves move)
    × OnlyMoves system (given_turn system world p) order

pub record ComesTo {L M K : Type 0} (system : System L M K) (world : World L M) (other : Scene L M)
    (many : ℕ → ℕ) (shown : ℕ → List ℕ) : Type 0 where
  pub order : List ℕ
  pub only_moves : OnlyMoves system world order
  pub arrives : HasScene (count_of system) (after_from system world order) other
  pub moved : (p : ℕ) → p < count_of system → length (moves_from system world order p) ≡ many p
  pub shows : (p : ℕ) → p < count_of system → shown_by (moves_from system world order p) ≡ shown p

abbrev pub Leads : {L M K : Type 0} → System L M K → Scene L M → Scene L M → (ℕ → ℕ)
    → (ℕ → List ℕ) → Type 0
Leads {L = L} {M = M} system one other many shown =
    (world : World L M) → HasScene (count_of system) world one
    → ComesTo system world other many shown

-- ---- what a process does next in a scene
abbrev pub IsReady : {M : Type 0} → ℕ → Option ℕ → ℕ → (ℕ → ℕ → List M) → Event M → Type 0
IsReady count capacity p links (Quiet shown) = Unit {0}
IsReady count capacity p links (Sent to message) =
    (to < count) × (has_room capacity (links p to) ≡ true)
IsReady {M = M} count capacity p links (Taken from message) =
    (from < count) × (rest : List M) × (links from p ≡ message ∷ rest)

pub record MovesIn {L M K : Type 0} (system : System L M K) (scene : Scene L M) (p : ℕ)
    : Type 0 where
  pub event : Event M
  pub next : L
  pub step : IsStep system.processes p (scene.locals p) event next
  pub ready : IsReady (count_of system) system.capacity p scene.links event

pub record WaitsIn {L M K : Type 0} (system : System L M K) (scene : Scene L M) (p : ℕ)
    : Type 0 where
  pub from : ℕ
  pub from_below : from < count_of system
  pub awaits : system.processes.act p (scene.locals p) ≡ Awaits from
  pub empty : scene.links from p ≡ []

pub data RestsIn {L M K : Type 0} (system : System L M K) (scene : Scene L M) (p : ℕ)
    : Type 0 where
  HasEnded : system.processes.act p (scene.locals p) ≡ Ended → RestsIn system scene p
  AwaitsMessage : WaitsIn system scene p → RestsIn system scene p
  AwaitsRoom : (to : ℕ) (message : M) (next : L) (shown : List ℕ) → to < count_of system
      → system.processes.act p (scene.locals p) ≡ Goes next (Some (to, message)) shown
      → has_room system.capacity (scene.links p to) ≡ false → RestsIn system scene p

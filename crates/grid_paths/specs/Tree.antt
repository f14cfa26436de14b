-- Processes that exchange messages up a tree and down again, where some stay away.
--
--   Tree, IsTree   each process has its children and its parent; the root, process 0, has no parent
--   Climbs         what a process does on the way up: it takes a message from each of its children,
--                  in their order, sends one to its parent, and then awaits the parent's
--   Halting        no message is on its way; some processes stay away, and go on by themselves; all
--                  others climb
--   Halted         the others have come to wait, while those have gone on
use Rattle.std.specs.Prelude.{◌≡◌, ℕ, ◌<◌, ◌≤◌, ◌==◌, Bool, true, false, List, [], ◌∷◌, ◌++◌, All, length, map, count_by, Option, Some, None, if◌then◌else◌}
use Rattle.std.specs.List.{concat}
use Rattle.grid_links.specs.Links.{has_room}
use Rattle.grid_links.specs.Machine.{Processes, Goes, Awaits, Takes}
use Rattle.grid_links.specs.Run.{System, count_of}
use Rattle.grid_paths.specs.Path.{Quiet, IsPath}
use Rattle.grid_paths.specs.Scene.{Scene, Leads, WaitsIn}

-- how often a number is in a list
abbrev pub times : ℕ → List ℕ → ℕ
times n numbers = count_by (λ m. m == n) numbers

pub record Tree : Type 0 where
  pub children : ℕ → List ℕ
  pub parent : ℕ → Option ℕ

abbrev pub parents : Option ℕ → List ℕ
parents None = []
parents (Some parent) = parent ∷ []

-- A process is once among another one's children where that is its parent, and else not at all;
-- each has a greater number than its parent.
pub record IsTree (count : ℕ) (tree : Tree) : Type 0 where
  pub family : (p c : ℕ) → p < count → c < count
      → times c (tree.children p) ≡ times p (parents (tree.parent c))
  pub children : (p : ℕ) → p < count → All (λ c. (p < c) × (c < count)) (tree.children p)
  pub parent : (c p : ℕ) → c < count → tree.parent c ≡ Some p → p < c
  pub root : (p : ℕ) → p < count → tree.parent p ≡ None → p ≡ 0

-- heard: its state when it has taken the messages of these children; told: when it has sent its own
pub record Climbs {L M K : Type 0} (processes : Processes L M K) (tree : Tree) (message : ℕ → M)
    (p : ℕ) (one : L) : Type 0 where
  pub heard : List ℕ → L
  pub begins : heard [] ≡ one
  pub awaits_child : (front rest : List ℕ) (c : ℕ) → tree.children p ≡ front ++ c ∷ rest
      → processes.act p (heard front) ≡ Awaits c
  pub takes : (front rest : List ℕ) (c : ℕ) → tree.children p ≡ front ++ c ∷ rest
      → processes.fed p (heard front) (message c) ≡ Takes (heard (front ++ c ∷ []))
  pub told : L
  pub sends : (q : ℕ) → tree.parent p ≡ Some q
      → processes.act p (heard (tree.children p)) ≡ Goes told (Some (q, message p)) []
  pub awaits_parent : (q : ℕ) → tree.parent p ≡ Some q → processes.act p told ≡ Awaits q

-- bytes: what each that stays away shows, move by move; on: the state that it goes on to
pub record Halting {L M K : Type 0} (system : System L M K) (tree : Tree) (message : ℕ → M)
    (away : ℕ → Bool) (bytes : ℕ → List (List ℕ)) (one : Scene L M) (on : ℕ → L) : Type 0 where
  pub is_tree : IsTree (count_of system) tree
  pub room : has_room {M = M} system.capacity [] ≡ true
  pub quiet : (p q : ℕ) → p < count_of system → q < count_of system → one.links p q ≡ []
  pub some : ℕ
  pub some_below : some < count_of system
  pub some_away : away some ≡ true
  pub alone : (p : ℕ) → p < count_of system → away p ≡ true
      → IsPath system.processes p (one.locals p) (map Quiet (bytes p)) (on p)
  pub climbs : (p : ℕ) → p < count_of system → away p ≡ false
      → Climbs system.processes tree message p (one.locals p)

pub record Halted {L M K : Type 0} (system : System L M K) (away : ℕ → Bool)
    (bytes : ℕ → List (List ℕ)) (one : Scene L M) (on : ℕ → L) : Type 0 where
  pub other : Scene L M
  pub many : ℕ → ℕ
  pub leads : Leads system one other many (λ p. if away p then concat (bytes p) else [])
  pub alone : (p : ℕ) → p < count_of system → away p ≡ true
      → (other.locals p ≡ on p) × (many p ≡ length (bytes p))
  pub waits : (p : ℕ) → p < count_of system → away p ≡ false → WaitsIn system other p
  pub silent : (p q : ℕ) → p < count_of system → q < count_of system → away p ≡ true
      → other.links p q ≡ []
  pub few : (p q : ℕ) → p < count_of system → q < count_of system → length (other.links p q) ≤ 1

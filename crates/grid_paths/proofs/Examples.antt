-- A ring of three that passes a number round, a star that gathers, and a pair of which one stays
-- away.
use Rattle.std.proofs.Common.{◌≡◌, ℕ, zero, suc, ◌+◌, ◌-◌, ◌<◌, ◌≤◌, true, false, ◌==◌, List, [], ◌∷◌, ◌++◌, length, map, All, slice_index_or, Option, Some, None, refl, arith, ap, eqb-true}
use Rattle.std.proofs.lemmas.List.Elements.{All-nil, All-cons}
use Rattle.grid_links.specs.Laws.{system_of}
use Rattle.grid_links.specs.Machine.{Act, Ended, Goes, Awaits, Fed, Takes}
use Rattle.grid_links.specs.Run.{System, World, after, moves_of, shown_by}
use Rattle.grid_paths.specs.Path.{Event, Quiet, Sent, Taken, IsPath, messages_to, messages_from, shown_in, NamesOthers}
use Rattle.grid_paths.specs.Scene.{Scene}
use Rattle.grid_paths.specs.Laws.{Round, alone_after}
use Rattle.grid_paths.specs.Tree.{Tree, parents, IsTree, Climbs, Halting, times}
use Rattle.grid_paths.proofs.TreeLemmas.{blocked_of, clear_front}

-- Gives: it sends its number to another process; Asks: it awaits one of another process, and adds it
-- to its own; Shows: it shows its number
data Doing : Type 0 where
  Gives : (to : ℕ) → Doing
  Asks : (from : ℕ) → Doing
  Shows : Doing

record State : Type 0 where
  number : ℕ
  todo : List Doing

abbrev act_of : ℕ → List Doing → Act State ℕ ℕ
act_of n [] = Ended
act_of n (Gives to ∷ todo) = Goes (record { number = n; todo = todo }) (Some (to, n)) []
act_of n (Asks from ∷ todo) = Awaits from
act_of n (Shows ∷ todo) = Goes (record { number = n; todo = todo }) None (n ∷ [])

abbrev rest_of : List Doing → List Doing
rest_of [] = []
rest_of (doing ∷ todo) = todo

abbrev act : ℕ → State → Act State ℕ ℕ
act p state = act_of state.number state.todo

abbrev fed : ℕ → State → ℕ → Fed State ℕ
fed p state message =
    Takes (record { number = state.number + message; todo = rest_of state.todo })

abbrev over_one : List State → System State ℕ ℕ
over_one start = system_of act fed start (Some 1)

abbrev state : ℕ → List Doing → State
state number todo = record { number = number; todo = todo }

abbrev done : ℕ → State
done number = state number []

abbrev scene : List State → (ℕ → ℕ → List ℕ) → Scene State ℕ
scene states links = record { locals = λ p. slice_index_or states p (done 0); links = links }

abbrev nothing : ℕ → ℕ → List ℕ
nothing from to = []

-- what a world of three has, read off a scene
abbrev row : (ℕ → ℕ → List ℕ) → ℕ → List (List ℕ)
row links from = map (links from) (0 ∷ 1 ∷ 2 ∷ [])

abbrev world_of : Scene State ℕ → World State ℕ
world_of told = record {
  locals = map told.locals (0 ∷ 1 ∷ 2 ∷ []);
  links = row told.links 0 ++ (row told.links 1 ++ row told.links 2);
}

-- ---- a ring: each adds its number, and passes the sum on
abbrev ring : System State ℕ ℕ
ring = over_one (
    state 7 (Gives 1 ∷ Asks 2 ∷ Shows ∷ []) ∷ state 10 (Asks 0 ∷ Gives 2 ∷ [])
    ∷ state 20 (Asks 1 ∷ Gives 0 ∷ []) ∷ [])

abbrev ring_one : Scene State ℕ
ring_one = scene ring.start nothing

-- the number has come round to the link from the last to the first
abbrev passed : ℕ → ℕ → List ℕ
passed (suc (suc zero)) zero = 37 ∷ []
passed from to = []

abbrev ring_two : Scene State ℕ
ring_two = scene (state 7 (Asks 2 ∷ Shows ∷ []) ∷ done 17 ∷ done 37 ∷ []) passed

abbrev ring_events : ℕ → List (Event ℕ)
ring_events p = slice_index_or (
    (Sent 1 7 ∷ []) ∷ (Taken 0 7 ∷ Sent 2 17 ∷ []) ∷ (Taken 1 17 ∷ Sent 0 37 ∷ []) ∷ []) p []

ring_begins : world_of ring_one ≡ after ring []
ring_begins = refl

-- in a round, the first process first
ring_round : world_of ring_two ≡ after ring (0 ∷ 1 ∷ 1 ∷ 2 ∷ 2 ∷ [])
ring_round = refl

path_of_one : IsPath ring.processes 1 (ring_one.locals 1) (ring_events 1) (ring_two.locals 1)
path_of_one = (state 17 (Gives 2 ∷ []), (refl, refl), (done 17, refl, refl))

-- what was on the links and is sent is what is taken and what is then on them
balance_sent : map (λ to. ring_one.links 0 to ++ messages_to to (ring_events 0)) (0 ∷ 1 ∷ 2 ∷ [])
    ≡ [] ∷ (7 ∷ []) ∷ [] ∷ []
balance_sent = refl

balance_taken : map (λ to. messages_from 0 (ring_events to) ++ ring_two.links 0 to) (0 ∷ 1 ∷ 2 ∷ [])
    ≡ [] ∷ (7 ∷ []) ∷ [] ∷ []
balance_taken = refl

last_link : (ring_one.links 2 0 ++ messages_to 0 (ring_events 2)
    ≡ messages_from 2 (ring_events 0) ++ ring_two.links 2 0)
last_link = refl

-- then the first one alone
abbrev last_events : List (Event ℕ)
last_events = Taken 2 37 ∷ Quiet (44 ∷ []) ∷ []

path_of_zero : IsPath ring.processes 0 (ring_two.locals 0) last_events (done 44)
path_of_zero = (state 44 (Shows ∷ []), (refl, refl), (done 44, refl, refl))

ring_ends : world_of (alone_after 0 (done 44) last_events (λ from. []) ring_two)
    ≡ after ring (0 ∷ 1 ∷ 1 ∷ 2 ∷ 2 ∷ 0 ∷ 0 ∷ [])
ring_ends = refl

ring_moves : map (λ p. length (moves_of ring (0 ∷ 1 ∷ 1 ∷ 2 ∷ 2 ∷ 0 ∷ 0 ∷ []) p)) (0 ∷ 1 ∷ 2 ∷ [])
    ≡ (length (ring_events 0) + length last_events)
    ∷ length (ring_events 1) ∷ length (ring_events 2) ∷ []
ring_moves = refl

ring_shows : shown_by (moves_of ring (0 ∷ 1 ∷ 1 ∷ 2 ∷ 2 ∷ 0 ∷ 0 ∷ []) 0)
    ≡ shown_in (ring_events 0) ++ shown_in last_events
ring_shows = refl

-- ---- a star: the last process first, and the middle, which takes from all, last
abbrev star : System State ℕ ℕ
star = over_one (
    state 1 (Asks 1 ∷ Asks 2 ∷ Shows ∷ []) ∷ state 10 (Gives 0 ∷ []) ∷ state 20 (Gives 0 ∷ []) ∷ [])

abbrev star_events : ℕ → List (Event ℕ)
star_events p = slice_index_or (
    (Taken 1 10 ∷ Taken 2 20 ∷ Quiet (31 ∷ []) ∷ []) ∷ (Sent 0 10 ∷ []) ∷ (Sent 0 20 ∷ []) ∷ []) p
    []

star_ends : world_of (scene (done 31 ∷ done 10 ∷ done 20 ∷ []) nothing)
    ≡ after star (2 ∷ 1 ∷ 0 ∷ 0 ∷ 0 ∷ [])
star_ends = refl

star_balance : map (λ from. messages_to 0 (star_events from)) (1 ∷ 2 ∷ [])
    ≡ map (λ from. messages_from from (star_events 0)) (1 ∷ 2 ∷ [])
star_balance = refl

-- ---- the pair: the second one gives its number to the first, and awaits an answer
abbrev pair : System State ℕ ℕ
pair = over_one (state 5 (Asks 1 ∷ []) ∷ state 9 (Gives 0 ∷ Asks 0 ∷ []) ∷ [])

abbrev pair_events : ℕ → List (Event ℕ)
pair_events p = slice_index_or ((Taken 1 9 ∷ []) ∷ (Sent 0 9 ∷ []) ∷ []) p []

-- a round with all its premises
pair_round : Round pair (λ p. 1 - p) pair_events (scene pair.start nothing)
    (scene (done 14 ∷ state 9 (Asks 0 ∷ []) ∷ []) nothing)
pair_round = record {
  path = path;
  named = named;
  balance = balance;
  early = early;
  rooms = rooms;
}
  where
    path : (p : ℕ) → p < 2 → IsPath pair.processes p ((scene pair.start nothing).locals p)
        (pair_events p) ((scene (done 14 ∷ state 9 (Asks 0 ∷ []) ∷ []) nothing).locals p)
    path zero below = (done 14, (refl, refl), refl)
    path (suc zero) below = (state 9 (Asks 0 ∷ []), refl, refl)
    path (suc (suc p)) below = absurd (omega arith)

    named : (p : ℕ) → p < 2 → NamesOthers 2 p (pair_events p)
    named zero below = ((let e : 1 < 2 = omega arith in e, refl), tt)
    named (suc zero) below = ((let e : 0 < 2 = omega arith in e, refl), tt)
    named (suc (suc p)) below = absurd (omega arith)

    balance : (from to : ℕ) → from < 2 → to < 2
        → messages_to to (pair_events from) ≡ messages_from from (pair_events to) ++ []
    balance zero zero a b = refl
    balance zero (suc zero) a b = refl
    balance (suc zero) zero a b = refl
    balance (suc zero) (suc zero) a b = refl
    balance (suc (suc p)) to a b = absurd (omega arith)
    balance from (suc (suc q)) a b = absurd (omega arith)

    early : (from to : ℕ) → from < 2 → to < 2 → 1 - to < 1 - from
        → length (messages_from from (pair_events to)) ≤ 0
    early zero zero a b c = omega arith
    early zero (suc zero) a b c = omega arith
    early (suc zero) to a b c = absurd (omega arith)
    early (suc (suc p)) to a b c = absurd (omega arith)
    early from (suc (suc q)) a b c = absurd (omega arith)

    rooms : (from to : ℕ) → from < 2 → to < 2 → length (messages_to to (pair_events from)) ≤ 1
    rooms zero zero a b = omega arith
    rooms zero (suc zero) a b = omega arith
    rooms (suc zero) zero a b = omega arith
    rooms (suc zero) (suc zero) a b = omega arith
    rooms (suc (suc p)) to a b = absurd (omega arith)
    rooms from (suc (suc q)) a b = absurd (omega arith)

-- ---- trees: of a star of three the last one stays away, so the middle hears the first child alone
abbrev star_children : ℕ → List ℕ
star_children zero = 1 ∷ 2 ∷ []
star_children (suc p) = []

abbrev star_parent : ℕ → Option ℕ
star_parent zero = None
star_parent (suc p) = Some 0

abbrev star_tree : Tree
star_tree = record { children = star_children; parent = star_parent }

star_blocked : map (blocked_of 3 star_tree (λ p. p == 2)) (0 ∷ 1 ∷ 2 ∷ [])
    ≡ true ∷ false ∷ true ∷ []
star_blocked = refl

star_hears : clear_front (blocked_of 3 star_tree (λ p. p == 2)) (star_children 0) ≡ 1 ∷ []
star_hears = refl

-- a pair of which the first one stays away, and shows its number twice before the next time
abbrev pair_children : ℕ → List ℕ
pair_children zero = 1 ∷ []
pair_children (suc p) = []

abbrev pair_tree : Tree
pair_tree = record { children = pair_children; parent = star_parent }

pair_is_tree : IsTree 2 pair_tree
pair_is_tree = record { family = family; children = children; parent = parent; root = root }
  where
    family : (p c : ℕ) → p < 2 → c < 2 → times c (pair_children p)
        ≡ times p (parents (star_parent c))
    family zero zero a b = refl
    family zero (suc zero) a b = refl
    family (suc zero) zero a b = refl
    family (suc zero) (suc zero) a b = refl
    family (suc (suc p)) c a b = absurd (omega arith)
    family p (suc (suc c)) a b = absurd (omega arith)

    children : (p : ℕ) → p < 2 → All (λ c. (p < c) × (c < 2)) (pair_children p)
    children zero a =
        All-cons (λ c. (0 < c) × (c < 2)) 1 []
        ((let e : 0 < 1 = omega arith in e), (let e : 1 < 2 = omega arith in e))
        (All-nil (λ c. (0 < c) × (c < 2)))
    children (suc p) a = All-nil (λ c. (suc p < c) × (c < 2))

    parent : (c p : ℕ) → c < 2 → star_parent c ≡ Some p → p < c
    parent zero p a e = cc
    parent (suc c) p a e = let same : 0 ≡ p = cc in omega (arith, same)

    root : (p : ℕ) → p < 2 → star_parent p ≡ None → p ≡ 0
    root zero a e = refl
    root (suc p) a e = cc

abbrev absent : System State ℕ ℕ
absent = over_one (
    state 5 (Shows ∷ Shows ∷ Shows ∷ []) ∷ state 9 (Gives 0 ∷ Asks 0 ∷ []) ∷ [])

second_climbs : Climbs absent.processes pair_tree (λ p. 9) 1 (state 9 (Gives 0 ∷ Asks 0 ∷ []))
second_climbs = record {
  heard = λ children. state 9 (Gives 0 ∷ Asks 0 ∷ []);
  begins = refl;
  awaits_child = λ front rest c e. no_child front rest c e;
  takes = λ front rest c e. no_child front rest c e;
  told = state 9 (Asks 0 ∷ []);
  sends = λ q e. let same : 0 ≡ q = cc in
      ap (λ (r : ℕ). Goes (state 9 (Asks 0 ∷ [])) (Some (r, 9)) []) same;
  awaits_parent = λ q e. let same : 0 ≡ q = cc in ap (λ (r : ℕ). Awaits r) same;
}
  where
    no_child : {X : Type 0} (front rest : List ℕ) (c : ℕ) → [] ≡ front ++ c ∷ rest → X
    no_child [] rest c e = cc
    no_child (d ∷ front) rest c e = cc

pair_halts : Halting absent pair_tree (λ p. 9) (λ p. p == 0) (λ p. (5 ∷ []) ∷ (5 ∷ []) ∷ [])
    (scene absent.start nothing) (λ p. state 5 (Shows ∷ []))
pair_halts = record {
  is_tree = pair_is_tree;
  room = refl;
  quiet = λ p q a b. refl;
  some = 0;
  some_below = (let e : 0 < 2 = omega arith in e);
  some_away = refl;
  alone = alone;
  climbs = climbs;
}
  where
    alone : (p : ℕ) → p < 2 → (p == 0) ≡ true
        → IsPath absent.processes p ((scene absent.start nothing).locals p)
        (Quiet (5 ∷ []) ∷ Quiet (5 ∷ []) ∷ []) (state 5 (Shows ∷ []))
    alone zero a e = (state 5 (Shows ∷ Shows ∷ []), refl, (state 5 (Shows ∷ []), refl, refl))
    alone (suc p) a e = absurd (omega (arith, eqb-true (suc p) 0 e))

    climbs : (p : ℕ) → p < 2 → (p == 0) ≡ false
        → Climbs absent.processes pair_tree (λ p. 9) p ((scene absent.start nothing).locals p)
    climbs zero a e = cc
    climbs (suc zero) a e = second_climbs
    climbs (suc (suc p)) a e = absurd (omega arith)

-- what that order is, and what is then on the link to the first one
pair_waits : after absent (1 ∷ 0 ∷ 0 ∷ []) ≡ record {
  locals = state 5 (Shows ∷ []) ∷ state 9 (Asks 0 ∷ []) ∷ [];
  links = [] ∷ [] ∷ (9 ∷ []) ∷ [] ∷ [];
}
pair_waits = refl

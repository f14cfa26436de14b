-- From the start to a scene in which each process rests or moves on.
use Rattle.std.proofs.Common.{◌≡◌, ◌⊎◌, ℕ, ◌*◌, ◌<◌, ◌≤◌, false, ◌&&◌, List, [], length, Some, None, refl, sym, ◌∙◌, ap, subst, inl, inr, lt-ltb}
use Rattle.std.proofs.lemmas.List.{length-replicate, get_or-replicate}
use Rattle.std.specs.List.{slice_get}
use Rattle.zpl_lists.specs.Front.{IsFrontOf}
use Rattle.grid_links.specs.Links.{has_room, link_number, link_of}
use Rattle.grid_links.specs.Machine.{Act, Ended, Goes, Awaits, Moves, Waiting, Over, Stuck, awaits, where_room, over_links}
use Rattle.grid_links.specs.Run.{System, World, count_of, start_world, heads_at, rooms_at, turn_or_over, next_turn, after, moves_of, IsStuck, Rests}
use Rattle.grid_links.proofs.LinkLemmas.{number-below}
use Rattle.grid_paths.specs.Scene.{Scene, HasScene, MovesIn, WaitsIn, RestsIn, HasEnded, AwaitsMessage, AwaitsRoom}
use Rattle.grid_paths.specs.Laws.{ReachesFrom}
use Rattle.grid_paths.proofs.AloneLemmas.{move_of, step_turn}
use Rattle.grid_paths.proofs.StuckLemmas.{stays_stuck}

module _ {L M K : Type 0} (system : System L M K) (world : World L M) (scene : Scene L M)
    (has : HasScene (count_of system) world scene) (p : ℕ) (below : p < count_of system) where
  -- the turn by what the process does by itself
  pub turn_is : (act : Act L M K) → system.processes.act p (scene.locals p) ≡ act
      → next_turn system world p
      ≡ over_links (system.processes.fed p (scene.locals p))
      (heads_at (count_of system) world.links p)
      (rooms_at system.capacity (count_of system) world.links p) act
  turn_is act is =
      ap (turn_or_over system world p) (has.local p below)
      ∙ ap (over_links (system.processes.fed p (scene.locals p))
      (heads_at (count_of system) world.links p)
      (rooms_at system.capacity (count_of system) world.links p)) is

  pub ended_turn : system.processes.act p (scene.locals p) ≡ Ended → next_turn system world p ≡ Over
  ended_turn is = turn_is Ended is

  pub waiting_turn : WaitsIn system scene p → next_turn system world p ≡ Waiting
  waiting_turn waits =
      turn_is (Awaits waits.from) waits.awaits
      ∙ ap (λ link. awaits (system.processes.fed p (scene.locals p)) waits.from (slice_get link 0))
      (has.link waits.from p waits.from_below below ∙ waits.empty)

  full_turn : (to : ℕ) (message : M) (next : L) (shown : List ℕ) → to < count_of system
      → system.processes.act p (scene.locals p) ≡ Goes next (Some (to, message)) shown
      → has_room system.capacity (scene.links p to) ≡ false → next_turn system world p ≡ Waiting
  full_turn to message next shown there is full =
      turn_is (Goes next (Some (to, message)) shown) is
      ∙ ap (λ room. where_room room (Moves (record {
        next = next;
        sent = Some (to, message);
        taken = None;
        shown = shown;
      })))
      (ap (λ b. b && has_room system.capacity (link_of (count_of system) world.links p to))
      (lt-ltb to (count_of system) there)
      ∙ (ap (has_room system.capacity) (has.link p to below there) ∙ full))

  pub rests : RestsIn system scene p → Rests system world p
  rests (HasEnded is) = inr (ended_turn is)
  rests (AwaitsMessage waits) = inl (waiting_turn waits)
  rests (AwaitsRoom to message next shown there is full) =
      inl (full_turn to message next shown there is full)

  pub moving_turn : (moves : MovesIn system scene p)
      → next_turn system world p ≡ Moves (move_of moves.event moves.next)
  moving_turn moves = step_turn system world scene p moves.event moves.next has below moves.step
      moves.ready

  pub unstuck : (least many : ℕ) (kind : K)
      → RestsIn system scene p ⊎ ((least ≤ many) × MovesIn system scene p)
      → next_turn system world p ≡ Stuck kind → ⊥
  unstuck least many kind (inl at_rest) stuck = by (rests at_rest)
    where
      by : Rests system world p → ⊥
      by (inl waiting) = let e = sym waiting ∙ stuck in cc
      by (inr over) = let e = sym over ∙ stuck in cc
  unstuck least many kind (inr (enough, moves)) stuck = let e = sym (moving_turn moves)
      ∙ stuck in cc

-- the start is a scene with empty links
pub starts : {L M K : Type 0} (system : System L M K) (scene : Scene L M)
    → ((p : ℕ) → p < count_of system → slice_get system.start p ≡ Some (scene.locals p))
    → ((p q : ℕ) → p < count_of system → q < count_of system → scene.links p q ≡ [])
    → HasScene (count_of system) (start_world system) scene
starts system scene locals quiet = record {
  size = refl;
  many = length-replicate (count_of system * count_of system) [];
  local = locals;
  link = λ p q here there.
      get_or-replicate (count_of system * count_of system) (link_number (count_of system) p q) [] []
      (number-below (count_of system) p q here there)
      ∙ sym (quiet p q here there);
}

pub reaches_from : {L M K : Type 0} (system : System L M K) → ReachesFrom system
reaches_from {L = L} {M = M} system one other many shown least starts leads come =
    let comes = leads (start_world system) starts in
    record {
      order = comes.order;
      only_moves = comes.only_moves;
      reaches = record {
        moved = λ p below. moved p below comes.order comes.arrives (comes.moved p below)
            (come p below);
        not_stuck = not_stuck comes.order comes.arrives;
      };
      arrives = comes.arrives;
      moved = comes.moved;
      shows = comes.shows;
      on_the_way = λ front is. on_the_way comes.order comes.arrives front is;
      over = λ all p below. ended_turn system (after system comes.order) other comes.arrives p below
          (all p below);
    }
  where
    moved : (p : ℕ) → p < count_of system → (order : List ℕ)
        → HasScene (count_of system) (after system order) other
        → length (moves_of system order p) ≡ many p
        → RestsIn system other p ⊎ ((least ≤ many p) × MovesIn system other p)
        → Rests system (after system order) p ⊎ (least ≤ length (moves_of system order p))
    moved p below order has same (inl at_rest) =
        inl (rests system (after system order) other has p below at_rest)
    moved p below order has same (inr (enough, moves)) =
        inr (subst (λ n. least ≤ n) (sym same) enough)

    not_stuck : (order : List ℕ) → HasScene (count_of system) (after system order) other
        → IsStuck system (after system order) → ⊥
    not_stuck order has stuck =
        unstuck system (after system order) other has stuck.process stuck.there least
        (many stuck.process)
        stuck.kind (come stuck.process stuck.there) stuck.stuck

    on_the_way : (order : List ℕ) → HasScene (count_of system) (after system order) other
        → (front : List ℕ) → IsFrontOf front order → IsStuck system (after system front) → ⊥
    on_the_way order has front is stuck =
        not_stuck order has (record {
          process = stuck.process;
          there = stuck.there;
          kind = stuck.kind;
          stuck = subst (λ o. next_turn system (after system o) stuck.process ≡ Stuck stuck.kind)
              (sym is.joins)
              (stays_stuck system front is.rest stuck.process stuck.kind stuck.there stuck.stuck).0;
        })

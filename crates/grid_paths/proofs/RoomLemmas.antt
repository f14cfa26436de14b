-- An order of moves over links of some capacity, over links of any number of messages.
use Rattle.std.proofs.Common.{◌≡◌, ℕ, ◌≤◌, Bool, true, false, ◌&&◌, nat_lt, List, [], ◌∷◌, ◌++◌, length, All, Option, Some, None, refl, sym, ◌∙◌, ap, subst}
use Rattle.std.specs.List.{slice_get}
use Rattle.grid_links.specs.Laws.{HoldsAtMost, with_capacity}
use Rattle.grid_links.specs.Links.{has_room, link_of}
use Rattle.grid_links.specs.Machine.{Move, Moves}
use Rattle.grid_links.specs.Run.{System, World, count_of, start_world, heads_at, rooms_at, turn_or_over, next_turn, given_turn, after_turn, after_from}
use Rattle.grid_links.proofs.CapacityLemmas.{keeps_capacity}
use Rattle.grid_links.proofs.TurnLemmas.{turn_of-grows}
use Rattle.grid_paths.specs.Scene.{OnlyMoves}
use Rattle.grid_paths.specs.Laws.{HoldsAsMuch}

module _ {L M K : Type 0} (system : System L M K) (most : ℕ) where
  abbrev small : System L M K
  small = with_capacity system (Some most)

  abbrev large : System L M K
  large = with_capacity system None

  more_room : (b : Bool) (link : List M) → (b && has_room (Some most) link) ≡ true
      → (b && has_room None link) ≡ true
  more_room true link room = refl
  more_room false link room = room

  same_move : (world : World L M) (p : ℕ) (move : Move L M)
      → next_turn small world p ≡ Moves move → next_turn large world p ≡ Moves move
  same_move world p move = by (slice_get world.locals p)
    where
      by : (local : Option L) → turn_or_over small world p local ≡ Moves move
          → turn_or_over large world p local ≡ Moves move
      by None turn = turn
      by (Some local) turn =
          turn_of-grows system.processes p local (heads_at (count_of system) world.links p)
          (heads_at (count_of system) world.links p)
          (rooms_at (Some most) (count_of system) world.links p)
          (rooms_at None (count_of system) world.links p) (Moves move)
          (record {
            head = λ from message e. e;
            room = λ to e.
                more_room (nat_lt to (count_of system))
                (link_of (count_of system) world.links p to) e;
          })
          turn (λ w. cc)

  same_after : (world : World L M) (p : ℕ) (move : Move L M) → next_turn small world p ≡ Moves move
      → given_turn large world p ≡ given_turn small world p
  same_after world p move turn =
      ap (λ t. after_turn (count_of system) p t world)
      (same_move world p move turn ∙ sym turn)

  moves_there : (world : World L M) (order : List ℕ) → OnlyMoves small world order
      → OnlyMoves large world order
  moves_there world [] moves = tt
  moves_there world (p ∷ order) (move, turn, moves) = (
    move,
    same_move world p move turn,
    subst (λ w. OnlyMoves large w order) (sym (same_after world p move turn))
        (moves_there (given_turn small world p) order moves),
  )

  same_worlds : (world : World L M) (front rest : List ℕ) → OnlyMoves small world (front ++ rest)
      → after_from large world front ≡ after_from small world front
  same_worlds world [] rest moves = refl
  same_worlds world (p ∷ front) rest (move, turn, moves) =
      ap (λ w. after_from large w front) (same_after world p move turn)
      ∙ same_worlds (given_turn small world p) front rest moves

  holds : (order : List ℕ) → OnlyMoves small (start_world system) order
      → HoldsAtMost large order most
  holds order moves front is =
      subst (λ w. All (λ link. length link ≤ most) w.links)
      (sym (same_worlds (start_world system) front is.rest
      (subst (OnlyMoves small (start_world system)) is.joins moves)))
      (keeps_capacity small front)

pub holds_as_much : {L M K : Type 0} (system : System L M K) → HoldsAsMuch system
holds_as_much system order most moves =
    (moves_there system most (start_world system) order moves, holds system most order moves)

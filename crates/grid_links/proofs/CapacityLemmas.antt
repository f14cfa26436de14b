-- Runs over links of a capacity.
use Rattle.std.proofs.Common.{◌≡◌, ◌⊎◌, ℕ, ◌*◌, ◌<◌, ◌≤◌, Bool, true, false, ◌&&◌, ◌==◌, nat_lt, List, [], ◌∷◌, ◌++◌, length, get_or, replicate, Option, Some, None, refl, sym, ◌∙◌, ap, ap₂, subst, inl, inr, arith, length-append, length-set, ltb-true, ltb-false, lt-ltb}
use Rattle.std.proofs.lemmas.List.{length-replicate, get_or-replicate}
use Rattle.std.proofs.lemmas.List.Elements.{All-set}
use Rattle.std.proofs.Math.ListN.{get_or-eq_default}
use Rattle.std.proofs.lemmas.List.Sums.{fold-append}
use Rattle.std.proofs.lemmas.Option.{slice_get_within}
use Rattle.std.specs.List.{All, slice_get}
use Rattle.zpl_lists.specs.Front.{IsFrontOf}
use Rattle.grid_links.specs.Links.{link_number, link_of, with_link, IsWithin}
use Rattle.grid_links.specs.Machine.{Act, Ended, Blocked, Goes, Awaits, Fed, Move, Turn, Moves, Waiting, Over, Stuck, Takes, Refuses, Heads, where_room, takes_from, awaits, over_links}
use Rattle.grid_links.specs.Run.{System, World, count_of, start_world, heads_at, rooms_at, turn_or_over, next_turn, links_taken, links_sent, after_turn, given_turn, after_from, after, move_in, moves_from, moves_of, Rests}
use Rattle.grid_links.specs.Laws.{with_capacity, HoldsAtMost, IsSameRun, ReachesAsMuch}
use Rattle.grid_links.proofs.FrontLemmas.{front-same, front-through}
use Rattle.grid_links.proofs.LinkLemmas.{within-sent, within-taken, number-below, length-links_sent, length-links_taken, link_of-with_link_same}

-- every process has a state, and every link is there
pub record IsWhole {L M : Type 0} (count : ℕ) (world : World L M) : Type 0 where
  pub size : length world.locals ≡ count
  pub many : length world.links ≡ count * count

IsWhole-after_turn : {L M K : Type 0} (count p : ℕ) (turn : Turn L M K) (world : World L M) → IsWhole count world → IsWhole count (after_turn count p turn world)
IsWhole-after_turn count p (Moves move) world is = record {
  size = length-set world.locals p move.next ∙ is.size;
  many = length-links_sent count p move.sent _ ∙ (length-links_taken count p move.taken world.links ∙ is.many);
}
IsWhole-after_turn count p Waiting world is = is
IsWhole-after_turn count p Over world is = is
IsWhole-after_turn count p (Stuck kind) world is = is

IsWhole-start : {L M K : Type 0} (system : System L M K) → IsWhole (count_of system) (start_world system)
IsWhole-start system = record { size = refl; many = length-replicate (count_of system * count_of system) [] }

IsWhole-after_from : {L M K : Type 0} (system : System L M K) (order : List ℕ) (world : World L M) → IsWhole (count_of system) world
    → IsWhole (count_of system) (after_from system world order)
IsWhole-after_from system [] world is = is
IsWhole-after_from system (p ∷ order) world is =
    IsWhole-after_from system order (given_turn system world p) (IsWhole-after_turn (count_of system) p (next_turn system world p) world is)

pub after-push : {L M K : Type 0} (system : System L M K) (order : List ℕ) (p : ℕ) → after system (order ++ p ∷ []) ≡ given_turn system (after system order) p
after-push system order p = fold-append (given_turn system) (start_world system) order (p ∷ [])

-- ---- the same turn
abbrev HoldAtMost : {M : Type 0} → ℕ → List (List M) → Type 0
HoldAtMost most links = All (λ link. length link ≤ most) links

-- where the message fits there is room
room_after : (K : Type 0) {L M : Type 0} (count most p : ℕ) (world : World L M) (move : Move L M) (to : ℕ) (message : M)
    → IsWhole count world → p < count → move.sent ≡ Some (to, message) → move.taken ≡ None → (inside : Bool) → nat_lt to count ≡ inside
    → HoldAtMost most (after_turn {K = K} count p (where_room (inside && true) (Moves move)) world).links
    → (inside && nat_lt (length (link_of count world.links p to)) most) ≡ (inside && true)
room_after K count most p world move to message whole below sent taken false e fits = refl
room_after K count most p world move to message whole below sent taken true e fits =
    let link : List _ = link_of count world.links p to in
    let links_are : links_sent count p move.sent (links_taken count p move.taken world.links) ≡ with_link count world.links p to (link ++ message ∷ []) =
    ap₂ (λ s t. links_sent count p s (links_taken count p t world.links)) sent taken in
    let there : to < count = ltb-true to count e in
    let number : link_number count p to < length (links_sent count p move.sent (links_taken count p move.taken world.links)) =
    rw (length-links_sent count p move.sent (links_taken count p move.taken world.links), length-links_taken count p move.taken world.links, whole.many)
    (number-below count p to below there) in
    let most_there = fits (link_number count p to) [] number in
    let link_is = ap (λ l. link_of count l p to) links_are ∙ link_of-with_link_same count world.links p to (link ++ message ∷ []) whole.many below there in
    lt-ltb (length link) most (omega (arith, ap length link_is, length-append link (message ∷ [])))

module _ {L M K : Type 0} (system : System L M K) (most : ℕ) where
  abbrev free : System L M K
  free = with_capacity system None

  abbrev bounded : System L M K
  bounded = with_capacity system (Some most)

  abbrev count : ℕ
  count = count_of system

  same_act : (world : World L M) → IsWhole count world → (p : ℕ) → p < count → (fed : M → Fed L K) (act : Act L M K)
      → HoldAtMost most (after_turn count p (over_links fed (heads_at count world.links p) (rooms_at None count world.links p) act) world).links
      → over_links fed (heads_at count world.links p) (rooms_at (Some most) count world.links p) act
      ≡ over_links fed (heads_at count world.links p) (rooms_at None count world.links p) act
  same_act world whole p below fed Ended fits = refl
  same_act world whole p below fed (Blocked kind) fits = refl
  same_act world whole p below fed (Goes next None shown) fits = refl
  same_act world whole p below fed (Goes next (Some sent) shown) fits =
      let move : Move L M = record { next = next; sent = Some sent; taken = None; shown = shown } in
      ap (λ b. where_room {K = K} b (Moves move))
      (room_after K count most p world move sent.0 sent.1 whole below refl refl (nat_lt sent.0 count) refl fits)
  same_act world whole p below fed (Awaits from) fits = refl

  same_local : (world : World L M) → IsWhole count world → (p : ℕ) (local : Option L) → slice_get world.locals p ≡ local
      → HoldAtMost most (after_turn count p (turn_or_over free world p local) world).links
      → turn_or_over bounded world p local ≡ turn_or_over free world p local
  same_local world whole p None e fits = refl
  same_local world whole p (Some local) e fits =
      let inside : p < length world.locals = slice_get_within world.locals p local e in
      same_act world whole p (omega (arith, whole.size)) (system.processes.fed p local) (system.processes.act p local) fits

  same_turn : (world : World L M) → IsWhole count world → (p : ℕ) → HoldAtMost most (given_turn free world p).links
      → next_turn bounded world p ≡ next_turn free world p
  same_turn world whole p fits = same_local world whole p (slice_get world.locals p) refl fits

  same_from : (order : List ℕ) (world : World L M) → IsWhole count world
      → ((front : List ℕ) → IsFrontOf front order → HoldAtMost most (after_from free world front).links)
      → (after_from bounded world order ≡ after_from free world order) × ((a : ℕ) → moves_from bounded world order a ≡ moves_from free world order a)
  same_from [] world whole fits = (refl, λ a. refl)
  same_from (p ∷ order) world whole fits =
      let turn = same_turn world whole p (fits (p ∷ []) (record { rest = order; joins = refl })) in
      let given : given_turn bounded world p ≡ given_turn free world p = ap (λ t. after_turn count p t world) turn in
      let rest = same_from order (given_turn free world p) (IsWhole-after_turn count p (next_turn free world p) world whole)
      (λ front f. fits (p ∷ front) (record { rest = f.rest; joins = ap (λ l. p ∷ l) f.joins })) in (
        ap (λ w. after_from bounded w order) given ∙ rest.0,
        λ a. ap₂ (λ t w. move_in (p == a) t ++ moves_from bounded w order a) turn given
            ∙ ap (λ l. move_in (p == a) (next_turn free world p) ++ l) (rest.1 a),
      )

  pub same_run : (order : List ℕ) → HoldsAtMost free order most → IsSameRun bounded free order
  same_run order holds =
      let worlds : (front : List ℕ) → IsFrontOf front order → after bounded front ≡ after free front = λ front f.
      (same_from front (start_world free) (IsWhole-start system) (λ u g. holds u (front-through g f))).0 in
      record {
        worlds = worlds;
        turns = λ front p f.
            let shorter : IsFrontOf front order = front-through (record { rest = p ∷ []; joins = refl }) f in
            let fits = subst (λ w. HoldAtMost most w.links) (after-push free front p) (holds (front ++ p ∷ []) f) in
            ap (λ w. next_turn bounded w p) (worlds front shorter)
            ∙ same_turn (after free front) (IsWhole-after_from free front (start_world free) (IsWhole-start system)) p fits;
        moves = (same_from order (start_world free) (IsWhole-start system) holds).1;
      }

  -- ---- the turn behind the order
  -- it is the same turn, or waits where it is a move over links of any number of messages
  abbrev Delays : Turn L M K → Turn L M K → Type 0
  Delays turn other = (turn ≡ other) ⊎ ((turn ≡ Waiting) × (move : Move L M) × (other ≡ Moves move))

  delays_where : (inside room : Bool) (move : Move L M) → Delays (where_room (inside && room) (Moves move)) (where_room (inside && true) (Moves move))
  delays_where false room move = inl refl
  delays_where true true move = inl refl
  delays_where true false move = inr (refl, move, refl)

  delays_act : (world : World L M) (p : ℕ) (fed : M → Fed L K) (act : Act L M K)
      → Delays (over_links fed (heads_at count world.links p) (rooms_at (Some most) count world.links p) act)
      (over_links fed (heads_at count world.links p) (rooms_at None count world.links p) act)
  delays_act world p fed Ended = inl refl
  delays_act world p fed (Blocked kind) = inl refl
  delays_act world p fed (Goes next None shown) = inl refl
  delays_act world p fed (Goes next (Some sent) shown) =
      delays_where (nat_lt sent.0 count) (nat_lt (length (link_of count world.links p sent.0)) most)
      (record { next = next; sent = Some sent; taken = None; shown = shown })
  delays_act world p fed (Awaits from) = inl refl

  delays_local : (world : World L M) (p : ℕ) (local : Option L) → Delays (turn_or_over bounded world p local) (turn_or_over free world p local)
  delays_local world p None = inl refl
  delays_local world p (Some local) = delays_act world p (system.processes.fed p local) (system.processes.act p local)

  delays : (world : World L M) (p : ℕ) → Delays (next_turn bounded world p) (next_turn free world p)
  delays world p = delays_local world p (slice_get world.locals p)

  over_carries : (turn other : Turn L M K) → Delays turn other → other ≡ Over → turn ≡ Over
  over_carries turn other (inl same) over = same ∙ over
  over_carries turn other (inr (waits, move, moves)) over = let no_move : Moves move ≡ Over = sym moves ∙ over in cc

  stuck_carries : (turn other : Turn L M K) (kind : K) → Delays turn other → turn ≡ Stuck kind → other ≡ Stuck kind
  stuck_carries turn other kind (inl same) stuck = sym same ∙ stuck
  stuck_carries turn other kind (inr (waits, move, moves)) stuck = let no_wait : Waiting ≡ Stuck kind = sym waits ∙ stuck in cc

  rest_carries : (turn other : Turn L M K) → Delays turn other → (other ≡ Waiting) ⊎ (other ≡ Over) → (turn ≡ Waiting) ⊎ (turn ≡ Over)
  rest_carries turn other late (inr over) = inr (over_carries turn other late over)
  rest_carries turn other (inl same) (inl waits) = inl (same ∙ waits)
  rest_carries turn other (inr (late, move, moves)) (inl waits) = inl late

  pub reaches_as_much : (order : List ℕ) → HoldsAtMost free order most → ReachesAsMuch bounded free order
  reaches_as_much order holds = record {
    reaches = λ many reaches. record {
      moved = λ p below. moved_there many p (reaches.moved p below);
      not_stuck = λ stuck. reaches.not_stuck (record {
        process = stuck.process;
        there = stuck.there;
        kind = stuck.kind;
        stuck = stuck_carries _ _ stuck.kind (behind stuck.process) stuck.stuck;
      });
    };
    over = λ over p below. over_carries _ _ (behind p) (over p below);
  }
    where
      run : IsSameRun bounded free order
      run = same_run order holds

      -- the turns behind the order, each in its own run
      behind : (p : ℕ) → Delays (next_turn bounded (after bounded order) p) (next_turn free (after free order) p)
      behind p =
          subst (λ w. Delays (next_turn bounded w p) (next_turn free (after free order) p))
          (sym (run.worlds order (front-same order))) (delays (after free order) p)

      moved_there : (many p : ℕ) → Rests free (after free order) p ⊎ (many ≤ length (moves_of free order p))
          → Rests bounded (after bounded order) p ⊎ (many ≤ length (moves_of bounded order p))
      moved_there many p (inl rests) = inl (rest_carries _ _ (behind p) rests)
      moved_there many p (inr enough) = inr (omega (arith, ap length (run.moves p)))

-- ---- the capacity is kept
within-any : {M : Type 0} (capacity : Option ℕ) (links : List (List M)) (n : ℕ) → All (IsWithin capacity) links → IsWithin capacity (get_or links n [])
within-any None links n within = tt
within-any (Some capacity) links n within = there (nat_lt n (length links)) refl
  where
    there : (inside : Bool) → nat_lt n (length links) ≡ inside → length (get_or links n []) ≤ capacity
    there true e = within n [] (ltb-true n (length links) e)
    there false e =
        let nothing : get_or links n [] ≡ [] = get_or-eq_default links [] (ltb-false n (length links) e) in
        omega (arith, ap length nothing)

and-right : (a b : Bool) → (a && b) ≡ true → b ≡ true
and-right true b e = e
and-right false b e = cc

module _ (K : Type 0) {L M : Type 0} (capacity : Option ℕ) (count p : ℕ) (world : World L M) (within : All (IsWithin capacity) world.links) where
  within_sent_where : (move : Move L M) (to : ℕ) (message : M) → move.sent ≡ Some (to, message) → move.taken ≡ None
      → (room : Bool) → rooms_at capacity count world.links p to ≡ room
      → All (IsWithin capacity) (after_turn {K = K} count p (where_room room (Moves move)) world).links
  within_sent_where move to message sent taken true e =
      let links_are : links_sent count p move.sent (links_taken count p move.taken world.links)
      ≡ with_link count world.links p to (link_of count world.links p to ++ message ∷ []) =
      ap₂ (λ s t. links_sent count p s (links_taken count p t world.links)) sent taken in
      subst (All (IsWithin capacity)) (sym links_are)
      (All-set (IsWithin capacity) world.links (link_number count p to) _
      (within-sent capacity (link_of count world.links p to) message (and-right (nat_lt to count) _ e)) within)
  within_sent_where move to message sent taken false e = within

  within_fed : (from : ℕ) (fed : Fed L K) → All (IsWithin capacity) (after_turn count p (takes_from from fed) world).links
  within_fed from (Takes next) =
      All-set (IsWithin capacity) world.links (link_number count from p) _
      (within-taken capacity (link_of count world.links from p) (within-any capacity world.links (link_number count from p) within)) within
  within_fed from (Refuses kind) = within

  within_awaits : (fed : M → Fed L K) (from : ℕ) (head : Option M) → All (IsWithin capacity) (after_turn count p (awaits fed from head) world).links
  within_awaits fed from None = within
  within_awaits fed from (Some message) = within_fed from (fed message)

  within_act : (fed : M → Fed L K) (heads : Heads M) (act : Act L M K)
      → All (IsWithin capacity) (after_turn count p (over_links fed heads (rooms_at capacity count world.links p) act) world).links
  within_act fed heads Ended = within
  within_act fed heads (Blocked kind) = within
  within_act fed heads (Goes next None shown) = within
  within_act fed heads (Goes next (Some sent) shown) =
      within_sent_where (record { next = next; sent = Some sent; taken = None; shown = shown }) sent.0 sent.1 refl refl
      (rooms_at capacity count world.links p sent.0) refl
  within_act fed heads (Awaits from) = within_awaits fed from (heads from)

within_turn : {L M K : Type 0} (system : System L M K) (world : World L M) (p : ℕ) (local : Option L) → All (IsWithin system.capacity) world.links
    → All (IsWithin system.capacity) (after_turn (count_of system) p (turn_or_over system world p local) world).links
within_turn system world p None within = within
within_turn {K = K} system world p (Some local) within =
    within_act K system.capacity (count_of system) p world within (system.processes.fed p local) _ (system.processes.act p local)

within_from : {L M K : Type 0} (system : System L M K) (order : List ℕ) (world : World L M) → All (IsWithin system.capacity) world.links
    → All (IsWithin system.capacity) (after_from system world order).links
within_from system [] world within = within
within_from system (p ∷ order) world within =
    within_from system order (given_turn system world p) (within_turn system world p (slice_get world.locals p) within)

within_none : {M : Type 0} (capacity : Option ℕ) (n : ℕ) → All (IsWithin {M = M} capacity) (replicate n [])
within_none None n = λ k d below. tt
within_none {M = M} (Some capacity) n = λ k d below.
    let empty : List M = [] in
    let inside : k < n = omega (arith, length-replicate n empty) in
    omega (arith, ap length (get_or-replicate n k empty d inside))

pub keeps_capacity : {L M K : Type 0} (system : System L M K) (order : List ℕ) → All (IsWithin system.capacity) (after system order).links
keeps_capacity system order =
    within_from system order (start_world system) (within_none system.capacity (count_of system * count_of system))

-- A world is what its processes' moves make of it, and each move is the turn of the moves before it.
use Rattle.std.proofs.Common.{◌≡◌, ◌⊎◌, ℕ, zero, suc, ◌+◌, ◌*◌, ◌<◌, ◌≤◌, Bool, true, false, cond, ◌&&◌, ◌==◌, nat_lt, List, [], ◌∷◌, ◌++◌, length, drop, set, Option, Some, None, option_map, refl, sym, ◌∙◌, ap, subst, inl, inr, arith, append_assoc, append-nil, length-append, length-set, eqb-true, ltb-true, ltb-false}
use Rattle.std.proofs.Math.Path.{fun_ext}
use Rattle.std.proofs.Math.ListN.{get_or-eq_default}
use Rattle.std.proofs.Math.Nat.{mul-le-mul_right}
use Rattle.std.proofs.lemmas.Bool.{eqb-false, ne_eqb}
use Rattle.std.proofs.lemmas.Grind.{flat_map-append}
use Rattle.std.proofs.lemmas.List.{length-replicate, get_or-replicate, get_or-set_same}
use Rattle.std.proofs.lemmas.List.Sums.{sum_by-append}
use Rattle.std.proofs.lemmas.Option.{slice_get_past, slice_get_within, slice_get-get_or}
use Rattle.std.specs.List.{slice_get}
use Rattle.grid_links.specs.Links.{link_number, link_of, has_room}
use Rattle.grid_links.specs.Machine.{Move, Turn, Moves, Waiting, Over, Stuck, Heads, Rooms, turn_of}
use Rattle.grid_links.specs.Run.{System, World, count_of, start_world, heads_at, rooms_at, turn_or_over, next_turn, links_taken, links_sent, after_turn, given_turn, after_from, after, move_in, moves_from, moves_of, message_to, sent_by, taken_from}
use Rattle.grid_links.proofs.FrontLemmas.{slice_get-append, last_or_before}
use Rattle.grid_links.proofs.LinkLemmas.{number-below, length-links_taken, length-links_sent, IsTo, sent_where, taken_where_none, taken_where-cond, link_of-links_sent, taken_of, taken_where, link_of-links_taken, OnItsWay, OnItsWay-goes_on, OnItsWay-link}
use Rattle.grid_links.proofs.TurnLemmas.{Grows, RestsOn, HasRoomFor, HasHeadFor, turn_of-grows, turn_of-rests}

-- the moves that each process has made
abbrev pub Past : Type 0 → Type 0 → Type 0
Past L M = ℕ → List (Move L M)

-- ---- what moves leave
abbrev pub state_after : {L M : Type 0} → L → List (Move L M) → L
state_after local [] = local
state_after local (move ∷ moves) = state_after move.next moves

state_after-push : {L M : Type 0} (local : L) (moves : List (Move L M)) (move : Move L M) → state_after local (moves ++ move ∷ []) ≡ move.next
state_after-push local [] move = refl
state_after-push local (first ∷ moves) move = state_after-push first.next moves move

-- the past with one more turn of p
abbrev pub with_turn : {L M K : Type 0} → Past L M → ℕ → Turn L M K → Past L M
with_turn past p turn a = past a ++ move_in (p == a) turn

sent_by-move_in : (K : Type 0) {L M : Type 0} (to : ℕ) (asked : Bool) (move : Move L M)
    → sent_by to (move_in {K = K} asked (Moves move)) ≡ sent_where asked to move.sent
sent_by-move_in K to true move = append-nil (message_to to move.sent)
sent_by-move_in K to false move = refl

sent_by-with_turn : (K : Type 0) {L M : Type 0} (past : Past L M) (p : ℕ) (move : Move L M) (from to : ℕ)
    → sent_by to (with_turn {K = K} past p (Moves move) from) ≡ sent_by to (past from) ++ sent_where (p == from) to move.sent
sent_by-with_turn K past p move from to =
    flat_map-append (λ m. message_to to m.sent) (past from) (move_in {K = K} (p == from) (Moves move))
    ∙ ap (λ s. sent_by to (past from) ++ s) (sent_by-move_in K to (p == from) move)

taken_from-move_in : (K : Type 0) {L M : Type 0} (from : ℕ) (asked : Bool) (move : Move L M)
    → taken_from from (move_in {K = K} asked (Moves move)) ≡ taken_where asked from move.taken
taken_from-move_in K from true move = omega arith
taken_from-move_in K from false move = refl

taken_from-with_turn : (K : Type 0) {L M : Type 0} (past : Past L M) (p : ℕ) (move : Move L M) (from to : ℕ)
    → taken_from from (with_turn {K = K} past p (Moves move) to) ≡ taken_from from (past to) + taken_where (p == to) from move.taken
taken_from-with_turn K past p move from to =
    sum_by-append (λ m. taken_of from m.taken) (past to) (move_in {K = K} (p == to) (Moves move))
    ∙ ap (λ n. taken_from from (past to) + n) (taken_from-move_in K from (p == to) move)

-- ---- what moves leave for a turn
-- the oldest message that each process has sent and this one not yet taken
abbrev pub heads_by : {L M : Type 0} → Past L M → ℕ → List (Move L M) → Heads M
heads_by past p moves from = slice_get (sent_by p (past from)) (taken_from from moves)

abbrev pub rooms_by : {L M : Type 0} → Option ℕ → ℕ → Past L M → ℕ → List (Move L M) → Rooms
rooms_by capacity count past p moves to = nat_lt to count && has_room capacity (drop (taken_from p (past to)) (sent_by to moves))

-- a process has room for each other one
abbrev pub every_room : ℕ → Rooms
every_room count to = nat_lt to count

-- ---- what holds of a world and the moves that led to it
pub record IsWorldOf {L M K : Type 0} (system : System L M K) (past : Past L M) (world : World L M) : Type 0 where
  pub locals : (p : ℕ) → slice_get world.locals p ≡ option_map (λ start. state_after start (past p)) (slice_get system.start p)
  pub size : length world.locals ≡ count_of system
  pub many : length world.links ≡ count_of system * count_of system
  pub ways : (from to : ℕ) → from < count_of system → to < count_of system
      → OnItsWay (sent_by to (past from)) (taken_from from (past to)) (link_of (count_of system) world.links from to)
  pub beyond : (p : ℕ) → count_of system ≤ p → past p ≡ []

-- each move is the turn of the moves before it, with what was sent in all
abbrev pub IsPast : {L M K : Type 0} → System L M K → Past L M → Type 0
IsPast {L} {M} {K} system past =
    (p : ℕ) (start : L) (before : List (Move L M)) (move : Move L M) (rest : List (Move L M))
    → slice_get system.start p ≡ Some start → past p ≡ before ++ move ∷ rest
    → turn_of system.processes p (state_after start before) (heads_by past p before) (every_room (count_of system)) ≡ Moves move

pub record IsRun {L M K : Type 0} (system : System L M K) (past : Past L M) (world : World L M) : Type 0 where
  pub world_of : IsWorldOf system past world
  pub turns : IsPast system past

-- ---- the turn of a process, by its moves
slice_get-drop : {X : Type 0} (n : ℕ) (xs : List X) → slice_get (drop n xs) 0 ≡ slice_get xs n
slice_get-drop zero [] = refl
slice_get-drop zero (x ∷ xs) = refl
slice_get-drop (suc n) [] = refl
slice_get-drop (suc n) (x ∷ xs) = slice_get-drop n xs

-- a link that isn't there has no message
head_beyond : {M : Type 0} (count : ℕ) (links : List (List M)) (p from : ℕ) → length links ≡ count * count → count ≤ from
    → heads_at count links p from ≡ None
head_beyond count links p from many beyond =
    let rows : count * count ≤ from * count = mul-le-mul_right count beyond in
    let past : length links ≤ link_number count from p = omega arith in
    ap (λ link. slice_get link 0) (get_or-eq_default links [] past)

head_by : {L M K : Type 0} (system : System L M K) (past : Past L M) (world : World L M) → IsWorldOf system past world → (p from : ℕ)
    → p < count_of system → heads_at (count_of system) world.links p from ≡ heads_by past p (past p) from
head_by system past world is p from below = cases (nat_lt from (count_of system)) refl
  where
    cases : (inside : Bool) → nat_lt from (count_of system) ≡ inside
        → heads_at (count_of system) world.links p from ≡ heads_by past p (past p) from
    cases true e =
        let way = is.ways from p (ltb-true from (count_of system) e) below in
        ap (λ link. slice_get link 0) (OnItsWay-link (sent_by p (past from)) (taken_from from (past p)) _ way)
        ∙ slice_get-drop (taken_from from (past p)) (sent_by p (past from))
    cases false e =
        let beyond : count_of system ≤ from = ltb-false from (count_of system) e in
        head_beyond (count_of system) world.links p from is.many beyond
        ∙ sym (ap (λ moves. slice_get (sent_by p moves) (taken_from from (past p))) (is.beyond from beyond))

room_by : {L M K : Type 0} (system : System L M K) (past : Past L M) (world : World L M) → IsWorldOf system past world → (p to : ℕ)
    → p < count_of system
    → rooms_at system.capacity (count_of system) world.links p to ≡ rooms_by system.capacity (count_of system) past p (past p) to
room_by system past world is p to below = cases (nat_lt to (count_of system)) refl
  where
    cases : (inside : Bool) → nat_lt to (count_of system) ≡ inside
        → (inside && has_room system.capacity (link_of (count_of system) world.links p to))
        ≡ (inside && has_room system.capacity (drop (taken_from p (past to)) (sent_by to (past p))))
    cases true e =
        ap (has_room system.capacity)
        (OnItsWay-link (sent_by to (past p)) (taken_from p (past to)) _ (is.ways p to below (ltb-true to (count_of system) e)))
    cases false e = refl

-- the next turn is that of the state behind the moves
abbrev pub turn_by : {L M K : Type 0} → System L M K → Past L M → ℕ → L → Turn L M K
turn_by system past p start =
    turn_of system.processes p (state_after start (past p)) (heads_by past p (past p))
    (rooms_by system.capacity (count_of system) past p (past p))

pub next_turn-by : {L M K : Type 0} (system : System L M K) (past : Past L M) (world : World L M) → IsWorldOf system past world
    → (p : ℕ) (start : L) → slice_get system.start p ≡ Some start → next_turn system world p ≡ turn_by system past p start
next_turn-by system past world is p start there =
    let below : p < count_of system = slice_get_within system.start p start there in
    let local = is.locals p ∙ ap (option_map (λ s. state_after s (past p))) there in
    ap (turn_or_over system world p) local
    ∙ (ap (λ heads. turn_of system.processes p (state_after start (past p)) heads (rooms_at system.capacity (count_of system) world.links p))
    (fun_ext (λ from. head_by system past world is p from below))
    ∙ ap (turn_of system.processes p (state_after start (past p)) (heads_by past p (past p)))
    (fun_ext (λ to. room_by system past world is p to below)))

-- no process beyond the last one has a turn
pub next_turn-beyond : {L M K : Type 0} (system : System L M K) (world : World L M) (p : ℕ) → length world.locals ≤ p
    → next_turn system world p ≡ Over
next_turn-beyond system world p beyond = ap (turn_or_over system world p) (slice_get_past world.locals p beyond)

-- the state of a process at the start
slice_get_there : {X : Type 0} (xs : List X) (i : ℕ) → i < length xs → (x : X) × (slice_get xs i ≡ Some x)
slice_get_there [] i h = absurd (omega arith)
slice_get_there (x ∷ xs) zero h = (x, refl)
slice_get_there (x ∷ xs) (suc i) h = slice_get_there xs i (omega arith)

pub start_of : {L M K : Type 0} (system : System L M K) (p : ℕ) → p < count_of system → (start : L) × (slice_get system.start p ≡ Some start)
start_of system p below = slice_get_there system.start p below

-- ---- the start
slice_get-same : {X : Type 0} (o : Option X) → o ≡ option_map (λ x. x) o
slice_get-same None = refl
slice_get-same (Some x) = refl

pub IsRun-start : {L M K : Type 0} (system : System L M K) → IsRun system (λ p. []) (start_world system)
IsRun-start {M = M} system = record {
  world_of = record {
    locals = λ p. slice_get-same (slice_get system.start p);
    size = refl;
    many = length-replicate (count_of system * count_of system) [];
    ways = λ from to below there. record {
      gone = [];
      many = refl;
      joins = sym (get_or-replicate (count_of system * count_of system) (link_number (count_of system) from to) [] [] (number-below (count_of system) from to below there));
    };
    beyond = λ p h. refl;
  };
  turns = λ p start before move rest there e. absurd (omega (arith, ap length e, length-append before (move ∷ rest)));
}

-- ---- a turn that changes nothing
pub move_in-none : {L M K : Type 0} (asked : Bool) (turn : Turn L M K) → ((move : Move L M) → turn ≡ Moves move → ⊥) → move_in asked turn ≡ []
move_in-none true (Moves move) none = absurd (none move refl)
move_in-none true Waiting none = refl
move_in-none true Over none = refl
move_in-none true (Stuck kind) none = refl
move_in-none false turn none = refl

pub with_turn-none : {L M K : Type 0} (past : Past L M) (p : ℕ) (turn : Turn L M K) → ((move : Move L M) → turn ≡ Moves move → ⊥)
    → past ≡ with_turn past p turn
with_turn-none past p turn none = fun_ext (λ a. sym (ap (λ l. past a ++ l) (move_in-none (p == a) turn none) ∙ append-nil (past a)))

-- ---- a move
slice_get-set_same : {X : Type 0} (xs : List X) (i : ℕ) (x : X) → i < length xs → slice_get (set xs i x) i ≡ Some x
slice_get-set_same xs i x below =
    let inside : i < length (set xs i x) = rw length-set below in
    slice_get-get_or (set xs i x) i x inside ∙ ap Some (get_or-set_same xs i x x below)

slice_get-set_other : {X : Type 0} (xs : List X) (i j : ℕ) (x : X) → (i ≡ j → ⊥) → slice_get (set xs i x) j ≡ slice_get xs j
slice_get-set_other [] i j x other = refl
slice_get-set_other (y ∷ xs) zero zero x other = absurd (other refl)
slice_get-set_other (y ∷ xs) zero (suc j) x other = refl
slice_get-set_other (y ∷ xs) (suc i) zero x other = refl
slice_get-set_other (y ∷ xs) (suc i) (suc j) x other = slice_get-set_other xs i j x (λ e. other (ap suc e))

pub and-left : (a b : Bool) → (a && b) ≡ true → a ≡ true
and-left true b e = refl
and-left false b e = e

is_to : {M : Type 0} (capacity : Option ℕ) (count : ℕ) (links : List (List M)) (p : ℕ) (sent : Option (ℕ × M))
    → HasRoomFor (rooms_at capacity count links p) sent → IsTo count sent
is_to capacity count links p None room = tt
is_to capacity count links p (Some sent) room = ltb-true sent.0 count (and-left (nat_lt sent.0 count) _ room)

-- what is taken is on the link
enough_where : {M : Type 0} (count : ℕ) (links : List (List M)) (p sender from to : ℕ) (message : M) (asked named : Bool)
    → (p == to) ≡ asked → (sender == from) ≡ named → heads_at count links p sender ≡ Some message
    → cond asked (cond named 1 0) 0 ≤ length (link_of count links from to)
enough_where count links p sender from to message true true a n head =
    let there : heads_at count links to from ≡ Some message =
    subst (λ t. heads_at count links t from ≡ Some message) (eqb-true p to a)
    (subst (λ f. heads_at count links p f ≡ Some message) (eqb-true sender from n) head) in
    slice_get_within (link_of count links from to) 0 message there
enough_where count links p sender from to message true false a n head = omega arith
enough_where count links p sender from to message false named a n head = omega arith

enough : {M : Type 0} (count : ℕ) (links : List (List M)) (p : ℕ) (taken : Option ℕ) → HasHeadFor (heads_at count links p) taken
    → (from to : ℕ) → taken_where (p == to) from taken ≤ length (link_of count links from to)
enough count links p None head from to = omega (arith, taken_where_none (p == to) from)
enough count links p (Some sender) head from to =
    let least = enough_where count links p sender from to head.0 (p == to) (sender == from) refl refl head.1 in
    omega (arith, taken_where-cond (p == to) from sender)

OnItsWay-along : {M : Type 0} {sent sent' : List M} {taken taken' : ℕ} {link link' : List M}
    → sent ≡ sent' → taken ≡ taken' → link ≡ link' → OnItsWay sent taken link → OnItsWay sent' taken' link'
OnItsWay-along s t l way = record {
  gone = way.gone;
  many = way.many ∙ t;
  joins = sym s ∙ (way.joins ∙ ap (λ x. way.gone ++ x) l);
}

module _ {L M K : Type 0} (system : System L M K) (past : Past L M) (world : World L M) (run : IsRun system past world)
    (p : ℕ) (start : L) (there : slice_get system.start p ≡ Some start) (move : Move L M)
    (moves : next_turn system world p ≡ Moves move) where
  below_count : p < count_of system
  below_count = slice_get_within system.start p start there

  -- the move rests on what is on the links
  rests : RestsOn (heads_at (count_of system) world.links p) (rooms_at system.capacity (count_of system) world.links p) move
  rests =
      let local = run.world_of.locals p ∙ ap (option_map (λ s. state_after s (past p))) there in
      turn_of-rests system.processes p (state_after start (past p)) _ _ move
      (sym (ap (turn_or_over system world p) local) ∙ moves)

  locals_where : (a : ℕ) (asked : Bool) → (p == a) ≡ asked
      → slice_get (set world.locals p move.next) a
      ≡ option_map (λ s. state_after s (past a ++ move_in {K = K} asked (Moves move))) (slice_get system.start a)
  locals_where a true e =
      let inside : p < length world.locals = rw run.world_of.size below_count in
      let same : p ≡ a = eqb-true p a e in
      ap (slice_get (set world.locals p move.next)) (sym same)
      ∙ (slice_get-set_same world.locals p move.next inside
      ∙ (ap Some (sym (state_after-push start (past a) move))
      ∙ ap (option_map (λ s. state_after s (past a ++ move ∷ []))) (sym there ∙ ap (slice_get system.start) same)))
  locals_where a false e =
      slice_get-set_other world.locals p a move.next (eqb-false p a e)
      ∙ (run.world_of.locals a ∙ ap (λ l. option_map (λ s. state_after s l) (slice_get system.start a)) (sym (append-nil (past a))))

  ways_after : (from to : ℕ) → from < count_of system → to < count_of system
      → OnItsWay (sent_by to (with_turn {K = K} past p (Moves move) from)) (taken_from from (with_turn {K = K} past p (Moves move) to))
      (link_of (count_of system) (links_sent (count_of system) p move.sent (links_taken (count_of system) p move.taken world.links)) from to)
  ways_after from to below reached =
      let count : ℕ = count_of system in
      let taken = links_taken count p move.taken world.links in
      let many : length taken ≡ count * count = length-links_taken count p move.taken world.links ∙ run.world_of.many in
      let link = link_of-links_sent count taken p move.sent from to many below_count
      (is_to system.capacity count world.links p move.sent rests.room) reached
      ∙ ap (λ l. l ++ sent_where (p == from) to move.sent)
      (link_of-links_taken count world.links p move.taken from to run.world_of.many below_count below reached) in
      OnItsWay-along (sym (sent_by-with_turn K past p move from to)) (sym (taken_from-with_turn K past p move from to)) (sym link)
      (OnItsWay-goes_on _ _ _ (sent_where (p == from) to move.sent) (taken_where (p == to) from move.taken)
      (run.world_of.ways from to below reached) (enough count world.links p move.taken rests.head from to))

  beyond_after : (a : ℕ) → count_of system ≤ a → with_turn {K = K} past p (Moves move) a ≡ []
  beyond_after a beyond =
      let other : p ≡ a → ⊥ = λ e. absurd (let h = below_count in omega arith) in
      ap (λ asked. past a ++ move_in {K = K} asked (Moves move)) (ne_eqb p a other)
      ∙ (append-nil (past a) ∙ run.world_of.beyond a beyond)

  -- with one more move nobody has fewer messages
  grows : (a : ℕ) (before : List (Move L M)) (capacity : Option ℕ) (of : List (Move L M)) → Grows (heads_by past a before) (heads_by (with_turn {K = K} past p (Moves move)) a before)
      (rooms_by capacity (count_of system) past a of) (every_room (count_of system))
  grows a before capacity of = record {
    head = λ from message e.
        ap (λ sent. slice_get sent (taken_from from before)) (sent_by-with_turn K past p move from a)
        ∙ slice_get-append (sent_by a (past from)) _ (taken_from from before) message e;
    room = λ to e. and-left (nat_lt to (count_of system)) _ e;
  }

  grows_all : (a : ℕ) (before : List (Move L M)) → Grows (heads_by past a before) (heads_by (with_turn {K = K} past p (Moves move)) a before)
      (every_room (count_of system)) (every_room (count_of system))
  grows_all a before = record { head = (grows a before None []).head; room = λ to e. e }

  turns_where : (a : ℕ) (asked : Bool) → (p == a) ≡ asked
      → (first : L) (before : List (Move L M)) (made : Move L M) (rest : List (Move L M)) → slice_get system.start a ≡ Some first
      → past a ++ move_in {K = K} asked (Moves move) ≡ before ++ made ∷ rest
      → turn_of system.processes a (state_after first before) (heads_by (with_turn {K = K} past p (Moves move)) a before) (every_room (count_of system)) ≡ Moves made
  turns_where a false e first before made rest first_is cut =
      turn_of-grows system.processes a (state_after first before) _ _ _ _ (Moves made) (grows_all a before)
      (run.turns a first before made rest first_is (sym (append-nil (past a)) ∙ cut)) (λ w. cc)
  turns_where a true e first before made rest first_is cut =
      one_of (last_or_before (past a) move before made rest cut)
    where
      one_of : (past a ≡ before) × (move ≡ made) ⊎ (r : List (Move L M)) × (past a ≡ before ++ made ∷ r)
          → turn_of system.processes a (state_after first before) (heads_by (with_turn {K = K} past p (Moves move)) a before) (every_room (count_of system)) ≡ Moves made
      one_of (inl (same, last)) =
          let here : p ≡ a = eqb-true p a e in
          let turn : turn_by system past a first ≡ Moves made =
          sym (next_turn-by system past world run.world_of a first first_is) ∙ (ap (next_turn system world) (sym here) ∙ (moves ∙ ap Moves last)) in
          turn_of-grows system.processes a (state_after first before) (heads_by past a before) _ (rooms_by system.capacity (count_of system) past a before) _
          (Moves made) (grows a before system.capacity before)
          (subst (λ l. turn_of system.processes a (state_after first l) (heads_by past a l) (rooms_by system.capacity (count_of system) past a l) ≡ Moves made) same turn)
          (λ w. cc)
      one_of (inr (r, same)) =
          turn_of-grows system.processes a (state_after first before) _ _ _ _ (Moves made) (grows_all a before)
          (run.turns a first before made r first_is same) (λ w. cc)

  IsRun-move : IsRun system (with_turn {K = K} past p (Moves move)) (after_turn {K = K} (count_of system) p (Moves move) world)
  IsRun-move = record {
    world_of = record {
      locals = λ a. locals_where a (p == a) refl;
      size = length-set world.locals p move.next ∙ run.world_of.size;
      many = length-links_sent (count_of system) p move.sent _
          ∙ (length-links_taken (count_of system) p move.taken world.links ∙ run.world_of.many);
      ways = ways_after;
      beyond = beyond_after;
    };
    turns = λ a first before made rest first_is cut. turns_where a (p == a) refl first before made rest first_is cut;
  }

-- ---- one turn, and an order
-- a process that moves is there
IsRun-of_turn : {L M K : Type 0} (system : System L M K) (past : Past L M) (world : World L M) → IsRun system past world
    → (p : ℕ) (turn : Turn L M K) → next_turn system world p ≡ turn
    → IsRun system (with_turn past p turn) (after_turn (count_of system) p turn world)
IsRun-of_turn {K = K} system past world run p (Moves move) e = there (nat_lt p (count_of system)) refl
  where
    there : (inside : Bool) → nat_lt p (count_of system) ≡ inside
        → IsRun system (with_turn {K = K} past p (Moves move)) (after_turn {K = K} (count_of system) p (Moves move) world)
    there true below =
        let (start, first) = start_of system p (ltb-true p (count_of system) below) in
        IsRun-move system past world run p start first move e
    there false beyond =
        let past_end : length world.locals ≤ p = rw run.world_of.size (ltb-false p (count_of system) beyond) in
        let nothing : Moves move ≡ Over = sym e ∙ next_turn-beyond system world p past_end in
        cc
IsRun-of_turn system past world run p Waiting e = subst (λ h. IsRun system h world) (with_turn-none past p Waiting (λ move w. cc)) run
IsRun-of_turn system past world run p Over e = subst (λ h. IsRun system h world) (with_turn-none past p Over (λ move w. cc)) run
IsRun-of_turn system past world run p (Stuck kind) e = subst (λ h. IsRun system h world) (with_turn-none past p (Stuck kind) (λ move w. cc)) run

pub IsRun-turn : {L M K : Type 0} (system : System L M K) (past : Past L M) (world : World L M) → IsRun system past world
    → (p : ℕ) → IsRun system (with_turn past p (next_turn system world p)) (given_turn system world p)
IsRun-turn system past world run p = IsRun-of_turn system past world run p (next_turn system world p) refl

-- moves behind moves
abbrev pub with_order : {L M K : Type 0} → System L M K → Past L M → World L M → List ℕ → Past L M
with_order system past world order a = past a ++ moves_from system world order a

pub with_order-cons : {L M K : Type 0} (system : System L M K) (past : Past L M) (world : World L M) (p : ℕ) (order : List ℕ)
    → with_order system (with_turn past p (next_turn system world p)) (given_turn system world p) order ≡ with_order system past world (p ∷ order)
with_order-cons system past world p order =
    fun_ext (λ a. append_assoc (past a) (move_in (p == a) (next_turn system world p)) (moves_from system (given_turn system world p) order a))

pub IsRun-order : {L M K : Type 0} (system : System L M K) (order : List ℕ) (past : Past L M) (world : World L M) → IsRun system past world
    → IsRun system (with_order system past world order) (after_from system world order)
IsRun-order system [] past world run = subst (λ h. IsRun system h world) (fun_ext (λ a. sym (append-nil (past a)))) run
IsRun-order system (p ∷ order) past world run =
    subst (λ h. IsRun system h (after_from system (given_turn system world p) order)) (with_order-cons system past world p order)
    (IsRun-order system order (with_turn past p (next_turn system world p)) (given_turn system world p) (IsRun-turn system past world run p))

pub IsRun-after : {L M K : Type 0} (system : System L M K) (order : List ℕ) → IsRun system (moves_of system order) (after system order)
IsRun-after system order = IsRun-order system order (λ a. []) (start_world system) (IsRun-start system)

-- ---- how many moves
pub length-move_in : {L M K : Type 0} (asked : Bool) (turn : Turn L M K) → length (move_in asked turn) ≤ 1
length-move_in true (Moves move) = omega arith
length-move_in true Waiting = omega arith
length-move_in true Over = omega arith
length-move_in true (Stuck kind) = omega arith
length-move_in false turn = omega arith

length-moves_from : {L M K : Type 0} (system : System L M K) (world : World L M) (order : List ℕ) (a : ℕ) → length (moves_from system world order a) ≤ length order
length-moves_from system world [] a = omega arith
length-moves_from system world (p ∷ order) a =
    let rest = length-moves_from system (given_turn system world p) order a in
    omega (arith, length-append (move_in (p == a) (next_turn system world p)) (moves_from system (given_turn system world p) order a), length-move_in (p == a) (next_turn system world p))

pub length-moves_of : {L M K : Type 0} (system : System L M K) (order : List ℕ) (a : ℕ) → length (moves_of system order a) ≤ length order
length-moves_of system order a = length-moves_from system (start_world system) order a

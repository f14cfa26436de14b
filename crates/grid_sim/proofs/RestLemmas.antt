-- A move changes the next turns of two processes at most: its own, and that of the one at the other
-- end of its message. And no other process comes to rest by it.
use Rattle.std.proofs.Common.{◌≡◌, ◌≢◌, ◌⊎◌, inl, inr, ℕ, zero, suc, ◌+◌, ◌*◌, ◌<◌, ◌≤◌, Bool, true, false, nat_lt, ◌&&◌, List, [], ◌∷◌, ◌++◌, length, drop, Option, Some, None, refl, sym, ◌∙◌, ap, subst, arith, lt-ltb, ltb-true}
use Rattle.std.specs.Prelude.{is_some, slice_get, slice_index_or, slice_set}
use Rattle.std.specs.Option.{IfSome}
use Rattle.std.proofs.Math.Nat.{mul-le-mul_right}
use Rattle.std.proofs.Math.Path.{fun_ext}
use Rattle.std.proofs.lemmas.List.{get_or-set_other}
use Rattle.grid_links.specs.Links.{link_number, link_of, with_link, has_room}
use Rattle.grid_links.specs.declared.messages.Message.{Message}
use Rattle.zpl_nums.specs.declared.ends.End.{End}
use Rattle.grid_links.specs.Machine.{Ended, Blocked, Goes, Awaits, Heads, Rooms, Takes, Refuses, Move, Moves, Waiting, Over, Stuck, awaits, over_links, takes_from, turn_of, where_room}
use Rattle.grid_links.specs.Network.{Network}
use Rattle.grid_links.specs.Run.{System, World, count_of, heads_at, rooms_at, links_taken, links_sent, after_turn, next_turn, turn_or_over}
use Rattle.grid_meaning.specs.Action.{Action, Feeding, StuckKind}
use Rattle.grid_meaning.specs.Local.{Local, processors}
use Rattle.grid_meaning.specs.Turn.{Turn, act_at, fed, unless_ended}
use Rattle.grid_meaning.proofs.PartnerLemmas.{IsOpen, open_at}
use Rattle.node_form.specs.declared.tables.Tables.{Tables}
use Rattle.node_turn.specs.Turned.{is_resting, turn_over}

-- ---- numbers of links
no_less : (count p q r s : ℕ) → q < count → link_number count p q ≡ link_number count r s → p < r → ⊥
no_less count p q r s below same less =
    let rows : (p + 1) * count ≤ r * count = mul-le-mul_right count (omega arith) in omega arith

number-from : (count p q r s : ℕ) → q < count → s < count → link_number count p q ≡ link_number count r s → p ≡ r
number-from count p q r s below there same =
    let not_less : p < r → ⊥ = no_less count p q r s below same in
    let not_more : r < p → ⊥ = no_less count r s p q there (sym same) in
    omega arith

number-to : (count p q r s : ℕ) → q < count → s < count → link_number count p q ≡ link_number count r s → q ≡ s
number-to count p q r s below there same =
    let rows : p * count ≡ r * count = ap (λ n. n * count) (number-from count p q r s below there same) in
    omega arith

-- ---- another link
link-other : {M : Type 0} (count : ℕ) (links : List (List M)) (p q from to : ℕ) (link : List M)
    → q < count → to < count → (p ≡ from → q ≡ to → ⊥)
    → link_of count (with_link count links p q link) from to ≡ link_of count links from to
link-other count links p q from to link below there other =
    let differs : link_number count from to ≢ link_number count p q = λ same.
    other (sym (number-from count from to p q there below same)) (sym (number-to count from to p q there below same)) in
    get_or-set_other links (link_number count p q) (link_number count from to) link [] differs

-- the one at the other end is a process, and another one than q
abbrev pub IsOtherThan : ℕ → ℕ → ℕ → Type 0
IsOtherThan count q other = (other < count) × (other ≢ q)

link-taken : {M : Type 0} (count p : ℕ) (taken : Option ℕ) (links : List (List M)) (from to : ℕ) → p < count → to < count
    → (IfSome taken (λ sender. sender ≢ from) ⊎ (p ≢ to))
    → link_of count (links_taken count p taken links) from to ≡ link_of count links from to
link-taken count p None links from to here there other = refl
link-taken count p (Some sender) links from to here there (inl other) =
    link-other count links sender p from to _ here there (λ same _. other same)
link-taken count p (Some sender) links from to here there (inr other) =
    link-other count links sender p from to _ here there (λ _ same. other same)

link-sent : {M : Type 0} (count p : ℕ) (sent : Option (ℕ × M)) (links : List (List M)) (from to : ℕ)
    → IfSome sent (λ message. message.0 < count) → to < count
    → (IfSome sent (λ message. message.0 ≢ to) ⊎ (p ≢ from))
    → link_of count (links_sent count p sent links) from to ≡ link_of count links from to
link-sent count p None links from to below there other = refl
link-sent count p (Some sent) links from to below there (inl other) =
    link-other count links p sent.0 from to _ below there (λ _ same. other same)
link-sent count p (Some sent) links from to below there (inr other) =
    link-other count links p sent.0 from to _ below there (λ same _. other same)

-- ---- what another process sees
module _ {M : Type 0} (capacity : Option ℕ) (count p q : ℕ) (sent : Option (ℕ × M)) (taken : Option ℕ) (links : List (List M))
    (here : p < count) (there : q < count) (apart : q ≢ p) (to_is : IfSome sent (λ message. IsOtherThan count q message.0))
    (from_is : IfSome taken (IsOtherThan count q)) where
  behind : List (List M)
  behind = links_sent count p sent (links_taken count p taken links)

  to_below : IfSome sent (λ message. message.0 < count)
  to_below = by sent to_is
    where
      by : (s : Option (ℕ × M)) → IfSome s (λ message. IsOtherThan count q message.0) → IfSome s (λ message. message.0 < count)
      by None is = is
      by (Some message) is = is.0

  to_other : IfSome sent (λ message. message.0 ≢ q)
  to_other = by sent to_is
    where
      by : (s : Option (ℕ × M)) → IfSome s (λ message. IsOtherThan count q message.0) → IfSome s (λ message. message.0 ≢ q)
      by None is = is
      by (Some message) is = is.1

  from_other : IfSome taken (λ sender. sender ≢ q)
  from_other = by taken from_is
    where
      by : (t : Option ℕ) → IfSome t (IsOtherThan count q) → IfSome t (λ sender. sender ≢ q)
      by None is = is
      by (Some sender) is = is.1

  pub heads-other : heads_at count (links_sent count p sent (links_taken count p taken links)) q ≡ heads_at count links q
  heads-other = fun_ext (λ from. ap (λ link. slice_get link 0)
      (link-sent count p sent (links_taken count p taken links) from q to_below there (inl to_other)
      ∙ link-taken count p taken links from q here there (inr (λ same. apart (sym same)))))

  pub rooms-other : rooms_at capacity count (links_sent count p sent (links_taken count p taken links)) q ≡ rooms_at capacity count links q
  rooms-other = fun_ext (λ to. by to (nat_lt to count) refl)
    where
      by : (to : ℕ) (inside : Bool) → nat_lt to count ≡ inside
          → rooms_at capacity count (links_sent count p sent (links_taken count p taken links)) q to ≡ rooms_at capacity count links q to
      by to true is = ap (λ link. nat_lt to count && has_room capacity link)
          (link-sent count p sent (links_taken count p taken links) q to to_below (ltb-true to count is) (inr (λ same. apart (sym same)))
          ∙ link-taken count p taken links q to here (ltb-true to count is) (inl from_other))
      by to false is = rw is refl

-- ---- another process
pub slice_get-set_other : {X : Type 0} (xs : List X) (i j : ℕ) (x : X) → j ≢ i → slice_get (slice_set xs i x) j ≡ slice_get xs j
slice_get-set_other [] i j x apart = refl
slice_get-set_other (y ∷ xs) zero zero x apart = absurd (apart refl)
slice_get-set_other (y ∷ xs) zero (suc j) x apart = refl
slice_get-set_other (y ∷ xs) (suc i) zero x apart = refl
slice_get-set_other (y ∷ xs) (suc i) (suc j) x apart = slice_get-set_other xs i j x (λ same. apart (ap suc same))

pub next_turn-other : {L M K : Type 0} (system : System L M K) (world : World L M) (p q : ℕ) (move : Move L M)
    → p < count_of system → q < count_of system → q ≢ p
    → IfSome move.sent (λ message. IsOtherThan (count_of system) q message.0) → IfSome move.taken (IsOtherThan (count_of system) q)
    → next_turn system (after_turn {K = K} (count_of system) p (Moves move) world) q ≡ next_turn system world q
next_turn-other {L} {M} {K} system world p q move here there apart to_is from_is =
    let count = count_of system in
    let behind = links_sent count p move.sent (links_taken count p move.taken world.links) in
    let new : World L M = record { locals = slice_set world.locals p move.next; links = behind } in
    ap (turn_or_over system new q) (slice_get-set_other world.locals p q move.next apart)
    ∙ by new (slice_get world.locals q)
    (heads-other system.capacity count p q move.sent move.taken world.links here there apart to_is from_is)
    (rooms-other system.capacity count p q move.sent move.taken world.links here there apart to_is from_is)
  where
    by : (new : World L M) (local : Option L) → heads_at (count_of system) new.links q ≡ heads_at (count_of system) world.links q
        → rooms_at system.capacity (count_of system) new.links q ≡ rooms_at system.capacity (count_of system) world.links q
        → turn_or_over system new q local ≡ turn_or_over system world q local
    by new None heads rooms = refl
    by new (Some local) heads rooms =
        ap (λ h. turn_of system.processes q local h (rooms_at system.capacity (count_of system) new.links q)) heads
        ∙ ap (λ r. turn_of system.processes q local (heads_at (count_of system) world.links q) r) rooms

-- ---- no other process comes to rest
-- a message more on some link
head-append : {M : Type 0} (link : List M) (message : M) → is_some (slice_get link 0) ≡ true
    → is_some (slice_get (link ++ message ∷ []) 0) ≡ true
head-append [] message some = refl
head-append (first ∷ link) message some = refl

head-more : {M : Type 0} (links : List (List M)) (n k : ℕ) (message : M) → is_some (slice_get (slice_index_or links k []) 0) ≡ true
    → is_some (slice_get (slice_index_or (slice_set links n (slice_index_or links n [] ++ message ∷ [])) k []) 0) ≡ true
head-more [] n k message some = some
head-more (link ∷ links) zero zero message some = head-append link message some
head-more (link ∷ links) zero (suc k) message some = some
head-more (link ∷ links) (suc n) zero message some = some
head-more (link ∷ links) (suc n) (suc k) message some = head-more links n k message some

-- and one fewer
room-drop : {M : Type 0} (capacity : Option ℕ) (link : List M) → has_room capacity link ≡ true → has_room capacity (drop 1 link) ≡ true
room-drop None link room = refl
room-drop (Some capacity) [] room = room
room-drop (Some capacity) (first ∷ link) room =
    let below : length (first ∷ link) < capacity = ltb-true (length (first ∷ link)) capacity room in
    lt-ltb (length link) capacity (omega arith)

room-fewer : {M : Type 0} (capacity : Option ℕ) (links : List (List M)) (n k : ℕ) → has_room capacity (slice_index_or links k []) ≡ true
    → has_room capacity (slice_index_or (slice_set links n (drop 1 (slice_index_or links n []))) k []) ≡ true
room-fewer capacity [] n k room = room
room-fewer capacity (link ∷ links) zero zero room = room-drop capacity link room
room-fewer capacity (link ∷ links) zero (suc k) room = room
room-fewer capacity (link ∷ links) (suc n) zero room = room
room-fewer capacity (link ∷ links) (suc n) (suc k) room = room-fewer capacity links n k room

-- messages where there were some, and room where there was
record HasNoLess {M : Type 0} (heads more_heads : Heads M) (rooms more_rooms : Rooms) : Type 0 where
  head : (from : ℕ) → is_some (heads from) ≡ true → is_some (more_heads from) ≡ true
  room : (to : ℕ) → rooms to ≡ true → more_rooms to ≡ true

module _ {M : Type 0} (capacity : Option ℕ) (count p q : ℕ) (sent : Option (ℕ × M)) (taken : Option ℕ) (links : List (List M))
    (here : p < count) (there : q < count) (apart : q ≢ p) (to_is : IfSome sent (λ message. message.0 < count)) where
  head-stays : (from : ℕ) → is_some (heads_at count links q from) ≡ true
      → is_some (heads_at count (links_sent count p sent (links_taken count p taken links)) q from) ≡ true
  head-stays from some =
      by sent (links_taken count p taken links)
      (subst (λ link. is_some (slice_get link 0) ≡ true)
      (sym (link-taken count p taken links from q here there (inr (λ same. apart (sym same))))) some)
    where
      by : (s : Option (ℕ × M)) (ls : List (List M)) → is_some (heads_at count ls q from) ≡ true
          → is_some (heads_at count (links_sent count p s ls) q from) ≡ true
      by None ls some = some
      by (Some message) ls some = head-more ls (link_number count p message.0) (link_number count from q) message.1 some

  room-taken : (t : Option ℕ) (to : ℕ) → has_room capacity (link_of count links q to) ≡ true
      → has_room capacity (link_of count (links_taken count p t links) q to) ≡ true
  room-taken None to room = room
  room-taken (Some sender) to room = room-fewer capacity links (link_number count sender p) (link_number count q to) room

  room-stays : (to : ℕ) → rooms_at capacity count links q to ≡ true
      → rooms_at capacity count (links_sent count p sent (links_taken count p taken links)) q to ≡ true
  room-stays to room = by (nat_lt to count) refl room
    where
      by : (inside : Bool) → nat_lt to count ≡ inside → (inside && has_room capacity (link_of count links q to)) ≡ true
          → (inside && has_room capacity (link_of count (links_sent count p sent (links_taken count p taken links)) q to)) ≡ true
      by true is room =
          ap (has_room capacity)
          (link-sent count p sent (links_taken count p taken links) q to to_is (ltb-true to count is) (inr (λ same. apart (sym same))))
          ∙ room-taken taken to room
      by false is room = room

  stays-enough : HasNoLess (heads_at count links q) (heads_at count (links_sent count p sent (links_taken count p taken links)) q)
      (rooms_at capacity count links q) (rooms_at capacity count (links_sent count p sent (links_taken count p taken links)) q)
  stays-enough = record { head = head-stays; room = room-stays }

-- what a processor does that doesn't rest
awake-sent : (room more : Bool) (move : Move Local Message) → (room ≡ true → more ≡ true)
    → is_resting (where_room room (Moves move)) ≡ false → is_resting (where_room more (Moves move)) ≡ false
awake-sent true more move enough awake =
    let turn_in : Bool → Turn = λ b. where_room b (Moves move) in ap (λ b. is_resting (turn_in b)) (enough refl)
awake-sent false more move enough awake = cc

awake-fed : (from : ℕ) (feeding : Feeding) → is_resting (takes_from from feeding) ≡ false
awake-fed from (Takes next) = refl
awake-fed from (Refuses kind) = refl

awake-head : (feeds : Message → Feeding) (from : ℕ) (head more : Option Message) → (is_some head ≡ true → is_some more ≡ true)
    → is_resting (awaits feeds from head) ≡ false → is_resting (awaits feeds from more) ≡ false
awake-head feeds from None more enough awake = cc
awake-head feeds from (Some message) None enough awake = let none : false ≡ true = enough refl in cc
awake-head feeds from (Some message) (Some other) enough awake = awake-fed from (feeds other)

awake-over : (feeds : Message → Feeding) (heads more_heads : Heads Message) (rooms more_rooms : Rooms) (action : Action)
    → HasNoLess heads more_heads rooms more_rooms → is_resting (over_links feeds heads rooms action) ≡ false
    → is_resting (over_links feeds more_heads more_rooms action) ≡ false
awake-over feeds heads more_heads rooms more_rooms Ended enough awake = awake
awake-over feeds heads more_heads rooms more_rooms (Blocked kind) enough awake = awake
awake-over feeds heads more_heads rooms more_rooms (Goes next None shown) enough awake = awake
awake-over feeds heads more_heads rooms more_rooms (Goes next (Some sent) shown) enough awake =
    awake-sent (rooms sent.0) (more_rooms sent.0) (record { next = next; sent = Some sent; taken = None; shown = shown })
    (enough.room sent.0) awake
awake-over feeds heads more_heads rooms more_rooms (Awaits from) enough awake =
    awake-head feeds from (heads from) (more_heads from) (enough.head from) awake

pub next_turn-awake : (system : System Local Message StuckKind) (world : World Local Message) (p q : ℕ) (move : Move Local Message)
    → p < count_of system → q < count_of system → q ≢ p → IfSome move.sent (λ message. message.0 < count_of system)
    → is_resting (next_turn system world q) ≡ false
    → is_resting (next_turn system (after_turn {K = StuckKind} (count_of system) p (Moves move) world) q) ≡ false
next_turn-awake system world p q move here there apart to_is awake =
    let count = count_of system in
    let behind = links_sent count p move.sent (links_taken count p move.taken world.links) in
    let new : World Local Message = record { locals = slice_set world.locals p move.next; links = behind } in
    subst (λ local. is_resting (turn_or_over system new q local) ≡ false) (sym (slice_get-set_other world.locals p q move.next apart))
    (by new (slice_get world.locals q) (stays-enough system.capacity count p q move.sent move.taken world.links here there apart to_is) awake)
  where
    by : (new : World Local Message) (local : Option Local)
        → HasNoLess (heads_at (count_of system) world.links q) (heads_at (count_of system) new.links q)
        (rooms_at system.capacity (count_of system) world.links q) (rooms_at system.capacity (count_of system) new.links q)
        → is_resting (turn_or_over system world q local) ≡ false → is_resting (turn_or_over system new q local) ≡ false
    by new None enough awake = awake
    by new (Some local) enough awake =
        awake-over (system.processes.fed q local) (heads_at (count_of system) world.links q) (heads_at (count_of system) new.links q)
        (rooms_at system.capacity (count_of system) world.links q) (rooms_at system.capacity (count_of system) new.links q)
        (system.processes.act q local) enough awake

-- ---- a processor at rest
pub rests_true : (turn : Turn) → is_resting turn ≡ true → (turn ≡ Waiting) ⊎ (turn ≡ Over)
rests_true (Moves move) is = cc
rests_true Waiting is = inl refl
rests_true Over is = inr refl
rests_true (Stuck kind) is = cc

pub true_rests : (turn : Turn) → (turn ≡ Waiting) ⊎ (turn ≡ Over) → is_resting turn ≡ true
true_rests turn (inl is) = ap is_resting is
true_rests turn (inr is) = ap is_resting is

-- one that hasn't ended doesn't come to Over
not_over : (code : Tables) (p : ℕ) (inside : p < processors code) (feeds : Message → Feeding) (heads : Heads Message) (rooms : Rooms)
    (action : Action) → IsOpen code p inside action → over_links feeds heads rooms action ≡ Over → ⊥
not_over code p inside feeds heads rooms Ended is_open over = is_open
not_over code p inside feeds heads rooms (Blocked kind) is_open over = cc
not_over code p inside feeds heads rooms (Goes next None shown) is_open over = cc
not_over code p inside feeds heads rooms (Goes next (Some sent) shown) is_open over = by (rooms sent.0) over
  where
    by : (room : Bool) → where_room {K = StuckKind} room (Moves (record { next = next; sent = Some sent; taken = None; shown = shown })) ≡ Over → ⊥
    by true is = cc
    by false is = cc
not_over code p inside feeds heads rooms (Awaits from) is_open over = by (heads from) over
  where
    fed_over : (feeding : Feeding) → takes_from {M = Message} from feeding ≡ Over → ⊥
    fed_over (Takes next) is = cc
    fed_over (Refuses kind) is = cc

    by : (head : Option Message) → awaits feeds from head ≡ Over → ⊥
    by None is = cc
    by (Some message) is = fed_over (feeds message) is

abbrev pub turn_at_rest : Bool → Turn
turn_at_rest true = Over
turn_at_rest false = Waiting

module _ (code : Tables) (p : ℕ) (local : Local) (network : Network) where
  abbrev turn_ended : Option End → Turn
  turn_ended ended =
      over_links (fed code p local) (heads_at network.count network.links p) (rooms_at network.capacity network.count network.links p)
      (unless_ended ended (act_at code p local (slice_get code.code local.at)))

  running_waits : p < processors code → (turn_ended None ≡ Waiting) ⊎ (turn_ended None ≡ Over) → turn_ended None ≡ Waiting
  running_waits inside (inl waits) = waits
  running_waits inside (inr over) =
      absurd (not_over code p inside (fed code p local) (heads_at network.count network.links p)
      (rooms_at network.capacity network.count network.links p) _ (open_at code p inside local (slice_get code.code local.at)) over)

  rest_by : p < processors code → (ended : Option End) → is_resting (turn_ended ended) ≡ true
      → turn_ended ended ≡ turn_at_rest (is_some ended)
  rest_by inside (Some ending) rests = refl
  rest_by inside None rests = running_waits inside (rests_true (turn_ended None) rests)

  pub rest_turn : p < processors code → is_resting (turn_over code p local network) ≡ true
      → turn_over code p local network ≡ turn_at_rest (is_some local.ended)
  rest_turn inside rests = rest_by inside local.ended rests

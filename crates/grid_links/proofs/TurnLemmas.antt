-- A turn where there are more messages, and more room.
use Rattle.std.proofs.Common.{◌≡◌, ℕ, Bool, true, false, [], Option, Some, None, refl, sym, ◌∙◌, ap, subst}
use Rattle.grid_links.specs.Machine.{Act, Ended, Blocked, Goes, Awaits, Fed, Takes, Refuses, Processes, Move, Turn, Moves, Waiting, Heads, Rooms, where_room, takes_from, awaits, over_links, turn_of}

-- each message that is there is there with more, and so is each room
pub record Grows {M : Type 0} (heads more_heads : Heads M) (rooms more_rooms : Rooms) : Type 0 where
  pub head : (from : ℕ) (message : M) → heads from ≡ Some message → more_heads from ≡ Some message
  pub room : (to : ℕ) → rooms to ≡ true → more_rooms to ≡ true

where_room-is : {L M K : Type 0} (room : Bool) (turn other : Turn L M K) → where_room room turn ≡ other
    → (other ≡ Waiting → ⊥) → (room ≡ true) × (turn ≡ other)
where_room-is true turn other e acts = (refl, e)
where_room-is false turn other e acts = absurd (acts (sym e))

awaits-is : {L M K : Type 0} (fed : M → Fed L K) (from : ℕ) (head : Option M) (other : Turn L M K)
    → awaits fed from head ≡ other → (other ≡ Waiting → ⊥)
    → (message : M) × (head ≡ Some message) × (takes_from from (fed message) ≡ other)
awaits-is fed from None other e acts = absurd (acts (sym e))
awaits-is fed from (Some message) other e acts = (message, refl, e)

-- a turn that isn't waiting stays the same turn
pub over_links-grows : {L M K : Type 0} (fed : M → Fed L K) (heads more_heads : Heads M) (rooms more_rooms : Rooms)
    (act : Act L M K) (turn : Turn L M K) → Grows heads more_heads rooms more_rooms
    → over_links fed heads rooms act ≡ turn → (turn ≡ Waiting → ⊥) → over_links fed more_heads more_rooms act ≡ turn
over_links-grows fed heads more_heads rooms more_rooms Ended turn grows e acts = e
over_links-grows fed heads more_heads rooms more_rooms (Blocked kind) turn grows e acts = e
over_links-grows fed heads more_heads rooms more_rooms (Goes next None shown) turn grows e acts = e
over_links-grows fed heads more_heads rooms more_rooms (Goes next (Some sent) shown) turn grows e acts =
    let (room, same) = where_room-is (rooms sent.0) _ turn e acts in
    ap (λ b. where_room b (Moves (record { next = next; sent = Some sent; taken = None; shown = shown }))) (grows.room sent.0 room)
    ∙ same
over_links-grows fed heads more_heads rooms more_rooms (Awaits from) turn grows e acts =
    let (message, head, same) = awaits-is fed from (heads from) turn e acts in
    ap (awaits fed from) (grows.head from message head) ∙ same

-- ---- what a move rests on
-- there is room for what is sent, and a message where one is taken
abbrev pub HasRoomFor : {M : Type 0} → Rooms → Option (ℕ × M) → Type 0
HasRoomFor rooms None = Unit {0}
HasRoomFor rooms (Some sent) = rooms sent.0 ≡ true

abbrev pub HasHeadFor : {M : Type 0} → Heads M → Option ℕ → Type 0
HasHeadFor heads None = Unit {0}
HasHeadFor {M} heads (Some from) = (message : M) × (heads from ≡ Some message)

pub record RestsOn {L M : Type 0} (heads : Heads M) (rooms : Rooms) (move : Move L M) : Type 0 where
  pub room : HasRoomFor rooms move.sent
  pub head : HasHeadFor heads move.taken

takes_from-rests : {L M K : Type 0} (heads : Heads M) (rooms : Rooms) (from : ℕ) (message : M) (fed : Fed L K) (move : Move L M)
    → heads from ≡ Some message → takes_from {L = L} {M = M} {K = K} from fed ≡ Moves move → RestsOn heads rooms move
takes_from-rests {L = L} {M = M} heads rooms from message (Takes next) move head e =
    let taking : Move L M = record { next = next; sent = None; taken = Some from; shown = [] } in
    let same : taking ≡ move = cc in
    subst (RestsOn heads rooms) same (record { room = tt; head = (message, head) })
takes_from-rests heads rooms from message (Refuses kind) move head e = cc

over_links-rests : {L M K : Type 0} (fed : M → Fed L K) (heads : Heads M) (rooms : Rooms) (act : Act L M K) (move : Move L M)
    → over_links fed heads rooms act ≡ Moves move → RestsOn heads rooms move
over_links-rests fed heads rooms Ended move e = cc
over_links-rests fed heads rooms (Blocked kind) move e = cc
over_links-rests {L = L} {M = M} fed heads rooms (Goes next None shown) move e =
    let going : Move L M = record { next = next; sent = None; taken = None; shown = shown } in
    let same : going ≡ move = cc in
    subst (RestsOn heads rooms) same (record { room = tt; head = tt })
over_links-rests {L = L} {M = M} fed heads rooms (Goes next (Some sent) shown) move e =
    let going : Move L M = record { next = next; sent = Some sent; taken = None; shown = shown } in
    let (room, turn) = where_room-is (rooms sent.0) (Moves going) (Moves move) e (λ w. cc) in
    let same : going ≡ move = cc in
    subst (RestsOn heads rooms) same (record { room = room; head = tt })
over_links-rests fed heads rooms (Awaits from) move e =
    let (message, head, turn) = awaits-is fed from (heads from) (Moves move) e (λ w. cc) in
    takes_from-rests heads rooms from message (fed message) move head turn

pub turn_of-grows : {L M K : Type 0} (processes : Processes L M K) (p : ℕ) (local : L) (heads more_heads : Heads M)
    (rooms more_rooms : Rooms) (turn : Turn L M K) → Grows heads more_heads rooms more_rooms
    → turn_of processes p local heads rooms ≡ turn → (turn ≡ Waiting → ⊥) → turn_of processes p local more_heads more_rooms ≡ turn
turn_of-grows processes p local heads more_heads rooms more_rooms turn grows e acts =
    over_links-grows (processes.fed p local) heads more_heads rooms more_rooms (processes.act p local) turn grows e acts

pub turn_of-rests : {L M K : Type 0} (processes : Processes L M K) (p : ℕ) (local : L) (heads : Heads M) (rooms : Rooms) (move : Move L M)
    → turn_of processes p local heads rooms ≡ Moves move → RestsOn heads rooms move
turn_of-rests processes p local heads rooms move e =
    over_links-rests (processes.fed p local) heads rooms (processes.act p local) move e

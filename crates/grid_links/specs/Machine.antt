-- What a process does by itself, what a message does to it, and what its turn is over links.
--
-- L are the states of a process, M the messages, K the reasons for being stuck.
--
--   Act      what a process does next, by its number and its state alone
--   Fed      what a message that it awaited makes of its state
--   Machine  both, for every process
--   Move     what a turn changed: the next state; a message with the receiver, where one was sent;
--            the sender of the message taken, where one was; and the bytes that were shown
--   Turn     a move; waiting; over, where the process has ended; or stuck
--   turn_of  the turn of a process, by the oldest messages that others have for it and by which of
--            its own links have room
use Rattle.std.specs.Prelude.{ℕ, Bool, true, false, List, [], Option, Some, None}

-- The process has ended; it is stuck; it goes on to a next state, sends at most one message, to
-- the process named beside it, and shows some bytes; or it awaits a message of the process named.
pub data Act (L M K : Type 0) : Type 0 where
  Ended : Act L M K
  Blocked : (kind : K) → Act L M K
  Goes : (next : L) (sent : Option (ℕ × M)) (shown : List ℕ) → Act L M K
  Awaits : (from : ℕ) → Act L M K

-- the next state, or a message that the process can't take
pub data Fed (L K : Type 0) : Type 0 where
  Takes : (next : L) → Fed L K
  Refuses : (kind : K) → Fed L K

pub record Processes (L M K : Type 0) : Type 0 where
  pub act : ℕ → L → Act L M K
  pub fed : ℕ → L → M → Fed L K

pub record Move (L M : Type 0) : Type 0 where
  pub next : L
  pub sent : Option (ℕ × M)
  pub taken : Option ℕ
  pub shown : List ℕ

pub data Turn (L M K : Type 0) : Type 0 where
  Moves : (move : Move L M) → Turn L M K
  Waiting : Turn L M K
  Over : Turn L M K
  Stuck : (kind : K) → Turn L M K

-- the oldest message for the process, by its sender; and whether the link to a receiver has room
abbrev pub Heads : Type 0 → Type 0
Heads M = ℕ → Option M

abbrev pub Rooms : Type 0
Rooms = ℕ → Bool

abbrev pub where_room : {L M K : Type 0} → Bool → Turn L M K → Turn L M K
where_room true turn = turn
where_room false turn = Waiting

abbrev pub goes : {L M K : Type 0} → L → Option (ℕ × M) → List ℕ → Rooms → Turn L M K
goes next None shown rooms =
    Moves (record { next = next; sent = None; taken = None; shown = shown })
goes next (Some sent) shown rooms =
    where_room (rooms sent.0)
    (Moves (record { next = next; sent = Some sent; taken = None; shown = shown }))

abbrev pub takes_from : {L M K : Type 0} → ℕ → Fed L K → Turn L M K
takes_from from (Takes next) =
    Moves (record { next = next; sent = None; taken = Some from; shown = [] })
takes_from from (Refuses kind) = Stuck kind

abbrev pub awaits : {L M K : Type 0} → (M → Fed L K) → ℕ → Option M → Turn L M K
awaits fed from None = Waiting
awaits fed from (Some message) = takes_from from (fed message)

-- what a process does by itself, over links
abbrev pub over_links : {L M K : Type 0} → (M → Fed L K) → Heads M → Rooms → Act L M K → Turn L M K
over_links fed heads rooms Ended = Over
over_links fed heads rooms (Blocked kind) = Stuck kind
over_links fed heads rooms (Goes next sent shown) = goes next sent shown rooms
over_links fed heads rooms (Awaits from) = awaits fed from (heads from)

abbrev pub turn_of : {L M K : Type 0} → Processes L M K → ℕ → L → Heads M → Rooms → Turn L M K
turn_of processes p local heads rooms =
    over_links (processes.fed p local) heads rooms (processes.act p local)

-- What one process does by itself, told apart from the links.
--
--   Event           a move: one without a message, that shows some bytes; one that sends a message;
--                   or one that takes one. The last two show nothing
--   IsStep          the process goes from one state to the next by the event
--   IsPath          it goes from one state to another by these events, one after another
--   messages_to     the messages that events send to a process, the first one first
--   messages_from   those that they take from a process
--   shown_in        the bytes that they show
--   AreOthers       these are processes, and others than p
--   NamesOthers     whom each event names is a process, and another one than its own
use Rattle.std.specs.Prelude.{◌≡◌, ℕ, ◌<◌, ◌==◌, false, List, [], ◌∷◌, ◌++◌, All, Some, None}
use Rattle.grid_links.specs.Machine.{Processes, Goes, Awaits, Takes}
use Rattle.grid_links.specs.Run.{message_where}

pub data Event (M : Type 0) : Type 0 where
  Quiet : (shown : List ℕ) → Event M
  Sent : (to : ℕ) (message : M) → Event M
  Taken : (from : ℕ) (message : M) → Event M

abbrev pub IsStep : {L M K : Type 0} → Processes L M K → ℕ → L → Event M → L → Type 0
IsStep processes p one (Quiet shown) next = processes.act p one ≡ Goes next None shown
IsStep processes p one (Sent to message) next =
    processes.act p one ≡ Goes next (Some (to, message)) []
IsStep processes p one (Taken from message) next =
    (processes.act p one ≡ Awaits from) × (processes.fed p one message ≡ Takes next)

abbrev pub IsPath : {L M K : Type 0} → Processes L M K → ℕ → L → List (Event M) → L → Type 0
IsPath processes p one [] other = one ≡ other
IsPath {L = L} processes p one (event ∷ events) other =
    (next : L) × IsStep processes p one event next × IsPath processes p next events other

-- ---- what events send, take and show
abbrev pub messages_to : {M : Type 0} → ℕ → List (Event M) → List M
messages_to to [] = []
messages_to to (Quiet shown ∷ events) = messages_to to events
messages_to to (Sent q message ∷ events) =
    message_where (q == to) message ++ messages_to to events
messages_to to (Taken q message ∷ events) = messages_to to events

abbrev pub messages_from : {M : Type 0} → ℕ → List (Event M) → List M
messages_from from [] = []
messages_from from (Quiet shown ∷ events) = messages_from from events
messages_from from (Sent q message ∷ events) = messages_from from events
messages_from from (Taken q message ∷ events) =
    message_where (q == from) message ++ messages_from from events

abbrev pub shown_in : {M : Type 0} → List (Event M) → List ℕ
shown_in [] = []
shown_in (Quiet shown ∷ events) = shown ++ shown_in events
shown_in (Sent q message ∷ events) = shown_in events
shown_in (Taken q message ∷ events) = shown_in events

-- ---- whom they name
abbrev pub AreOthers : ℕ → ℕ → List ℕ → Type 0
AreOthers count p numbers = All (λ q. (q < count) × ((q == p) ≡ false)) numbers

abbrev pub NamesOther : {M : Type 0} → ℕ → ℕ → Event M → Type 0
NamesOther count p (Quiet shown) = Unit {0}
NamesOther count p (Sent q message) = (q < count) × ((q == p) ≡ false)
NamesOther count p (Taken q message) = (q < count) × ((q == p) ≡ false)

abbrev pub NamesOthers : {M : Type 0} → ℕ → ℕ → List (Event M) → Type 0
NamesOthers count p [] = Unit {0}
NamesOthers count p (event ∷ events) = NamesOther count p event × NamesOthers count p events

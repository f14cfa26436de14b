-- The messages on links, by their senders and receivers.
--
--   sent_to        those of a sender's messages that are for one receiver
--   sending_all    links with a sender's messages behind those that are there
--   sending_each   so with the messages of one sender after another
--   AreTo, EachTo  the receivers are among so many processors
use Rattle.std.specs.Prelude.{◌==◌, ℕ, ◌+◌, ◌<◌, List, [], ◌∷◌, if◌then◌else◌, map}
use Rattle.grid_links.specs.declared.messages.Message.{Message}
use Rattle.grid_links.specs.Network.{Network, sending}
use Rattle.node_local.specs.Workplace.{Workplace}
use Rattle.save_reading.specs.Sent.{sent_pair}
use Rattle.state_reading.specs.declared.states.ReadState.{ReadState}

abbrev pub sent_to : ℕ → List (ℕ × Message) → List Message
sent_to q [] = []
sent_to q (sent ∷ more) = if sent.0 == q then sent.1 ∷ sent_to q more else sent_to q more

abbrev pub sending_all : ℕ → List (ℕ × Message) → Network → Network
sending_all from [] network = network
sending_all from (sent ∷ more) network = sending_all from more (sending network from sent.0 sent.1)

abbrev pub sending_each : ℕ → List (List (ℕ × Message)) → Network → Network
sending_each from [] network = network
sending_each from (sents ∷ more) network = sending_each (from + 1) more (sending_all from sents network)

abbrev pub AreTo : ℕ → List (ℕ × Message) → Type 0
AreTo count [] = Unit {0}
AreTo count (sent ∷ more) = (sent.0 < count) × AreTo count more

abbrev pub EachTo : ℕ → List (List (ℕ × Message)) → Type 0
EachTo count [] = Unit {0}
EachTo count (sents ∷ more) = AreTo count sents × EachTo count more

-- ---- states in memory
abbrev pub workplace_in : ReadState → Workplace
workplace_in read = read.local

abbrev pub sent_in : ReadState → List (ℕ × Message)
sent_in read = map sent_pair read.sent.items

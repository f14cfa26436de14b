-- What a processor does by itself, and what a message makes of its state.
use Rattle.std.specs.Prelude.{ℕ, zero, suc, ◌+◌, ◌<◌, List, [], Some, None, ⊤}
use Rattle.std.specs.Option.{IfSome}
use Rattle.node_form.specs.of_zpl_nums.declared.ends.End.{End}
use Rattle.grid_links.specs.declared.messages.Message.{Message}
use Rattle.grid_links.specs.Machine.{Act, Goes, Awaits, Fed}
use Rattle.grid_meaning.specs.Local.{Local, left}

-- What is wrong where a processor is stuck: a message's tag or length, or a place that isn't held;
-- or that the row that is next names what isn't in its table.
pub data StuckKind : Type 0 where
  WrongTag : StuckKind
  WrongLength : StuckKind
  Unheld : StuckKind
  Undefined : StuckKind

-- It has ended; it is stuck; it makes a move, with a new state, at most one message to a named
-- processor, and the bytes that are printed; or it awaits a message of a named processor.
abbrev pub Action : Type 0
Action = Act Local Message StuckKind

-- the state in which a message was taken; or the processor is stuck with it
abbrev pub Feeding : Type 0
Feeding = Fed Local StuckKind

-- ---- moves without messages
abbrev pub moves : Local → List ℕ → Action
moves local bytes = Goes local None bytes

-- the instruction with this number is next
abbrev pub goes_to : Local → ℕ → Local
goes_to local at = left local at

abbrev pub goes_on : Local → Local
goes_on local = goes_to local (local.at + 1)

-- the processor ends, and stays where it stands
abbrev pub ended_as : Local → End → Local
ended_as local ending = record (left local local.at) { ended = Some ending }

abbrev pub ends : Local → End → Action
ends local ending = moves (ended_as local ending) []

-- processor 0 prints, and the others go on without
abbrev pub prints : ℕ → Local → List ℕ → Action
prints zero local bytes = moves (goes_on local) bytes
prints (suc p) local bytes = moves (goes_on local) []

-- whom it sends to, or awaits, is one of so many processors
abbrev pub NamesBelow : ℕ → Action → Type 0
NamesBelow count (Goes next sent shown) = IfSome sent (λ message. message.0 < count)
NamesBelow count (Awaits from) = from < count
NamesBelow count action = ⊤

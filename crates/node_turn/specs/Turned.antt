-- One turn of a processor, as code answers it, and what it makes of the processor's state and of
-- the links.
--
--   turn_over      the next turn of processor p, over these links
--   links_behind   the links behind a move
--   IsTurn         an answer, with what was there before and what is there behind it
--   IsPrinting     the next turn prints these bytes
--   is_resting     a turn that is no move and isn't stuck
use Rattle.std.specs.Prelude.{◌≡◌, ◌≢◌, ℕ, ◌<◌, Bool, true, false, List, [], length, Option, Some, None}
use Rattle.std.specs.Option.{IsSomeAnd}
use Rattle.zpl_nums.specs.declared.ends.End.{End}
use Rattle.grid_links.specs.declared.messages.Message.{Message}
use Rattle.grid_links.specs.Machine.{Move, Moves, Waiting, Over, Stuck}
use Rattle.grid_links.specs.Network.{Network}
use Rattle.grid_links.specs.Run.{heads_at, rooms_at, links_sent, links_taken}
use Rattle.node_form.specs.declared.tables.Tables.{Tables}
use Rattle.grid_meaning.specs.Action.{StuckKind, WrongTag, WrongLength, Unheld, goes_on, moves}
use Rattle.grid_meaning.specs.Local.{Local, processors}
use Rattle.grid_meaning.specs.Turn.{Turn, act, turn_at}
use Rattle.node_local.specs.Workplace.{IsReady, Workplace}
use Rattle.node_turn.specs.declared.steps.Step.{Step}
use Rattle.node_turn.specs.declared.steps.Step.TheVariants as step
use Rattle.node_turn.specs.declared.steps.StuckKind.{StuckKind as Kind}
use Rattle.node_turn.specs.declared.steps.StuckKind.TheVariants as kind
use Rattle.node_turn.specs.declared.steps.Traffic.{Traffic}
use Rattle.node_turn.specs.declared.steps.Traffic.TheVariants as traffic

-- ---- turns over links
abbrev pub turn_over : Tables → ℕ → Local → Network → Turn
turn_over code p local network =
    turn_at code p local (heads_at network.count network.links p)
    (rooms_at network.capacity network.count network.links p)

abbrev pub links_behind : ℕ → Move Local Message → Network → Network
links_behind p move network = record network {
  links = links_sent network.count p move.sent (links_taken network.count p move.taken network.links);
}

-- ---- moves
-- what a move does on links: nothing, or it sends so many words to one of so many processors, or
-- takes a message from one
abbrev pub IsTraffic : ℕ → Traffic → Move Local Message → Type 0
IsTraffic count traffic.Quiet move = (move.sent ≡ None) × (move.taken ≡ None)
IsTraffic count (traffic.Sent to words) move =
    (to < count) × IsSomeAnd move.sent (λ sent. (sent.0 ≡ to) × (length sent.1.words ≡ words)) × (move.taken ≡ None)
IsTraffic count (traffic.Took from) move = (from < count) × (move.sent ≡ None) × (move.taken ≡ Some from)

-- a move was made that prints nothing
pub record IsMade (code : Tables) (p : ℕ) (turn : Turn) (traffic : Traffic) (old new : Workplace) (before after : Network)
    : Type 0 where
  pub move : Move Local Message
  pub moves : turn ≡ Moves move
  pub silent : move.shown ≡ []
  pub told : IsTraffic (processors code) traffic move
  pub state : new ≡ record old { local = move.next }
  pub ready : IsReady code p new
  pub links : after ≡ links_behind p move before

-- The next turn is a move that prints these bytes, of which there are some, and goes on to the next
-- row; no message is sent or taken. It is one of processor 0.
pub record IsPrinting (code : Tables) (p : ℕ) (bytes : List ℕ) (local : Local) : Type 0 where
  pub action : act code p local ≡ moves (goes_on local) bytes
  pub some : bytes ≢ []
  pub first : p ≡ 0

-- ---- answers
-- this is the turn, and nothing has changed
pub record IsAnswered (turn answer : Turn) (old new : Workplace) (before after : Network) : Type 0 where
  pub turn_is : turn ≡ answer
  pub state : new ≡ old
  pub links : after ≡ before

-- how a processor is stuck, as answers tell it; `Idle` is said of grids alone
abbrev pub kind_told : Kind → Option StuckKind
kind_told kind.Tag = Some WrongTag
kind_told kind.Length = Some WrongLength
kind_told kind.Unheld = Some Unheld
kind_told kind.Idle = None

abbrev pub IsStuckAs : Option StuckKind → Turn → Workplace → Workplace → Network → Network → Type 0
IsStuckAs (Some stuck) turn old new before after = IsAnswered turn (Stuck stuck) old new before after
IsStuckAs None turn old new before after = ⊥

-- the move that prints these bytes
abbrev pub printing : Local → List ℕ → Turn
printing local bytes = Moves (record { next = goes_on local; sent = None; taken = None; shown = bytes })

module _ (code : Tables) (p : ℕ) (old new : Workplace) (before after : Network) where
  abbrev pub IsTurn : Turn → Step → Type 0
  IsTurn turn (step.Moved traffic) = IsMade code p turn traffic old new before after
  IsTurn turn (step.Prints bytes) =
      IsPrinting code p bytes old.local × IsAnswered turn (printing old.local bytes) old new before after
  IsTurn turn step.Waiting = IsAnswered turn Waiting old new before after
  IsTurn turn step.Over = IsAnswered turn Over old new before after
  IsTurn turn (step.Stuck kind) = IsStuckAs (kind_told kind) turn old new before after

-- ---- rest
abbrev pub is_resting : Turn → Bool
is_resting (Moves move) = false
is_resting Waiting = true
is_resting Over = true
is_resting (Stuck kind) = false

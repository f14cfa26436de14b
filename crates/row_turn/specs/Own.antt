-- What a processor makes of its next row, by itself and with a message.
--
--   IsOwn       a turn without a message
--   message_of  the message of a row to a processor
--   fed_of      what a message made of the state
--   StaysSo     where it was refused nothing changes
use Rattle.std.specs.Prelude.{◌≡◌, ℕ, ⊤, List, Option}
use Rattle.std.specs.Option.{option_map}
use Rattle.grid_links.specs.declared.messages.Message.{Message}
use Rattle.grid_links.specs.Machine.{Blocked, Takes, Refuses}
use Rattle.grid_meaning.specs.Action.{Action, Feeding, WrongTag, WrongLength}
use Rattle.grid_meaning.specs.Action as does
use Rattle.grid_meaning.specs.Collective.{Collective}
use Rattle.grid_meaning.specs.Local.{Local}
use Rattle.node_control.specs.Moving.{MovesOn, ShowsBytes}
use Rattle.node_local.specs.Workplace.{Workplace}
use Rattle.row_turn.specs.declared.answers.OwnTurn.{OwnTurn}
use Rattle.row_turn.specs.declared.answers.OwnTurn.TheVariants.{Moves, Prints, Unheld}
use Rattle.row_turn.specs.declared.answers.Receipt.{Receipt}
use Rattle.row_turn.specs.declared.answers.Receipt.TheVariants as receipt

-- a place isn't held, and nothing changes
pub record LacksPlace (action : Action) (old new : Workplace) : Type 0 where
  pub stuck : action ≡ Blocked does.Unheld
  pub same : new ≡ old

-- processor 0 is to print these bytes, and nothing has changed yet
pub record ShowsFirst (p : ℕ) (action : Action) (bytes : List ℕ) (old new : Workplace) : Type 0 where
  pub shows : ShowsBytes action bytes old new
  pub first : p ≡ 0

abbrev pub IsOwn : ℕ → Action → Workplace → Workplace → OwnTurn → Type 0
IsOwn p action old new Moves = MovesOn action old new
IsOwn p action old new (Prints bytes) = ShowsFirst p action bytes old new
IsOwn p action old new Unheld = LacksPlace action old new

abbrev pub message_of : Collective → Local → ℕ → Option Message
message_of row local to =
    option_map (λ words. record { tag = row.tag local; words = words }) (row.words_to local to)

abbrev pub fed_of : Receipt → Local → Feeding
fed_of receipt.Accepted local = Takes local
fed_of receipt.Tag local = Refuses WrongTag
fed_of receipt.Length local = Refuses WrongLength
fed_of receipt.Unheld local = Refuses does.Unheld

abbrev pub StaysSo : Receipt → Workplace → Workplace → Type 0
StaysSo receipt.Accepted old new = ⊤
StaysSo receipt.Tag old new = new ≡ old
StaysSo receipt.Length old new = new ≡ old
StaysSo receipt.Unheld old new = new ≡ old

-- What a row does with a processor's state.
use Rattle.std.specs.Prelude.{◌≡◌, ◌≢◌, ℕ, List, [], Option, Some, None}
use Rattle.node_form.specs.Control.{Control}
use Rattle.grid_meaning.specs.Action.{Action, goes_on, moves}
use Rattle.grid_meaning.specs.Turn.{controlled}
use Rattle.node_local.specs.Workplace.{Workplace}

-- it is a move without a message that prints nothing, and nothing but the state changes
pub record MovesOn (action : Action) (old new : Workplace) : Type 0 where
  pub moved : action ≡ moves new.local []
  pub same : new ≡ record old { local = new.local }

abbrev pub MovesBy : Control → Workplace → Workplace → Type 0
MovesBy control old new = MovesOn (controlled old.local control) old new

-- it is one that prints these bytes, of which there are some, and goes on; nothing has changed yet
pub record ShowsBytes (action : Action) (bytes : List ℕ) (old new : Workplace) : Type 0 where
  pub printed : action ≡ moves (goes_on old.local) bytes
  pub some : bytes ≢ []
  pub same : new ≡ old

abbrev pub Shows : Action → Workplace → Workplace → Option (List ℕ) → Type 0
Shows action old new (Some bytes) = ShowsBytes action bytes old new
Shows action old new None = MovesOn action old new

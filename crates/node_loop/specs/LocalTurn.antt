-- What a turn of a loop comes to: a move to a state, or the processor is stuck.
use Rattle.std.specs.Prelude.{◌≡◌, [], ⊤}
use Rattle.grid_links.specs.Machine.{Blocked}
use Rattle.grid_meaning.specs.Action.{Action, moves}
use Rattle.grid_meaning.specs.Action as action
use Rattle.grid_meaning.specs.Local.{Local}
use Rattle.node_local.specs.Workplace.{Workplace}
use Rattle.node_loop.specs.declared.turns.LocalTurn.{LocalTurn}
use Rattle.node_loop.specs.declared.turns.LocalTurn.TheVariants.{Moves, Unheld, Undefined}

abbrev pub turned : LocalTurn → Local → Action
turned Moves local = moves local []
turned Unheld local = Blocked action.Unheld
turned Undefined local = Blocked action.Undefined

-- a processor that is stuck stays as it was
abbrev pub StaysWhereStuck : LocalTurn → Workplace → Workplace → Type 0
StaysWhereStuck Moves before after = ⊤
StaysWhereStuck Unheld before after = after ≡ before
StaysWhereStuck Undefined before after = after ≡ before

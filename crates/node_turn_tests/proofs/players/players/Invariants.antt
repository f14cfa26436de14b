use Rattle.std.proofs.Common.{◌<◌}
use Rattle.std.specs.Prelude.{All}
use Rattle.grid_meaning.specs.Local.{processors}
use Rattle.node_local.specs.Workplace.{IsReady}
use Rattle.node_turn_tests.proofs.players.players.Given as goal

abbrev pub invariant-loop-number : goal.invariant-loop-number
invariant-loop-number l =
    All (λ player. (player.number < processors l.code) × IsReady l.code player.number player.local) l.players.items

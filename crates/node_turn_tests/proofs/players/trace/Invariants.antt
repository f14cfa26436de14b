use Rattle.std.proofs.Common.{◌≡◌, ◌<◌}
use Rattle.std.specs.Prelude.{All}
use Rattle.grid_meaning.specs.Local.{processors}
use Rattle.node_local.specs.Workplace.{IsReady}
use Rattle.node_turn_tests.proofs.players.trace.Given as goal

abbrev pub invariant-loop-digit : goal.invariant-loop-digit
invariant-loop-digit l =
    All (λ player. (player.number < processors l.code) × IsReady l.code player.number player.local) l.players.items
    × (l.links.count ≡ processors l.code)

use Rattle.std.proofs.Common.{◌≡◌, ◌<◌, ap, sym, ◌∙◌}
use Rattle.grid_layout.specs.Grid.{processors_of}
use Rattle.grid_meaning.specs.Local.{processors}
use Rattle.node_stages.proofs.PieceLemmas.{grid_count}
use Rattle.node_turn_tests.proofs.players.trace.Goals as goal

pub loop-digit-init : goal.loop-digit-init
loop-digit-init c = (
  c.in_ok-players.ensures,
  c.in_ok-links.ensures ∙ (c.count.ensures.count ∙ (ap processors_of c.grid.ensures ∙ grid_count c.args.code.now _ c.in_ok-layout.ensures)),
)

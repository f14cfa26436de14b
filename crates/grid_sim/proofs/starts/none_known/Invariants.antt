use Rattle.std.proofs.Common.{◌≡◌, replicate}
use Rattle.node_turn.specs.of_node_stages.Known.{nothing_known}
use Rattle.grid_sim.proofs.starts.none_known.Given as goal

abbrev pub invariant-loop-p : goal.invariant-loop-p
invariant-loop-p l = l.partners.items ≡ replicate l._p nothing_known

use Rattle.std.proofs.Common.{◌≤◌}
use Rattle.node_check.specs.Settled.{IsKept, nones, sizes}
use Rattle.node_check.proofs.walks.settle.Given as goal

abbrev pub invariant-turns : goal.invariant-turns
invariant-turns l = record {
  kept : IsKept l.tables l.now.items;
  fewer : nones l.now.items ≤ nones l.fn.fronts.items;
}

abbrev pub decreases-turns : goal.decreases-turns
decreases-turns l = sizes l.now.items

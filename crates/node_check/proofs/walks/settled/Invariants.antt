use Rattle.node_check.specs.Settled.{IsKept, nones}
use Rattle.node_check.proofs.walks.settled.Given as goal

abbrev pub invariant-walks : goal.invariant-walks
invariant-walks l = IsKept l.tables l.fronts.items

abbrev pub decreases-walks : goal.decreases-walks
decreases-walks l = nones l.fronts.items

use Rattle.comm_combine.proofs.MergeLemmas.{IsMerging}
use Rattle.comm_combine.proofs.neighbours.merge_neighbours.Given as goal

abbrev pub invariant-loop-i : goal.invariant-loop-i
invariant-loop-i l = IsMerging l.plan l.draft l.pending l.i

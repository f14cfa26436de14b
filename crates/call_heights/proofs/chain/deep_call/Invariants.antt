use Rattle.call_heights.specs.Calls.{edges_at}
use Rattle.call_heights.proofs.ChainLemmas.{Descends}
use Rattle.call_heights.proofs.chain.deep_call.Given as goal

abbrev pub invariant-loop-count : goal.invariant-loop-count
invariant-loop-count l = Descends (edges_at l.graph) l.heights l.entry l._count l.edge

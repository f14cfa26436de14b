use Rattle.node_loop.proofs.BracketLemmas.{IsOutward}
use Rattle.node_loop.proofs.brackets.outermost.Given as goal

-- the member that is looked for is found among those that are left, or is the last one that was found
abbrev pub invariant-loop-rest : goal.invariant-loop-rest
invariant-loop-rest l = IsOutward l.members l.fn.number l.rest l.depth l.outer

abbrev pub decreases-loop-rest : goal.decreases-loop-rest
decreases-loop-rest l = l.rest

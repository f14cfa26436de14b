use Rattle.node_loop.proofs.BracketLemmas.{IsInward}
use Rattle.node_loop.proofs.brackets.innermost.Given as goal

-- the member that is looked for is found among those that are left
abbrev pub invariant-loop-rest : goal.invariant-loop-rest
invariant-loop-rest l = IsInward l.members l.number l.rest l.depth

abbrev pub decreases-loop-rest : goal.decreases-loop-rest
decreases-loop-rest l = l.rest

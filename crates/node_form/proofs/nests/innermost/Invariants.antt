use Rattle.std.proofs.Common.{◌+◌, ◌≤◌, length}
use Rattle.node_form.proofs.NestLemmas.{IsAtDepth}
use Rattle.node_form.proofs.nests.innermost.Given as goal

-- the opening that is looked for stands at the depth behind the members that are left
abbrev pub invariant-loop-rest : goal.invariant-loop-rest
invariant-loop-rest l =
    record { small : l.depth + l.rest ≤ length l.members; left : IsAtDepth l.members l.rest l.depth }

abbrev pub decreases-loop-rest : goal.decreases-loop-rest
decreases-loop-rest l = l.rest

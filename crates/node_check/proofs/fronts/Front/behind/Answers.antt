use Rattle.node_check.proofs.fronts.Front.behind.Goals as goal

pub invariant_of-result : goal.invariant_of-result
invariant_of-result c = c.in_ok-facts.ensures.regions

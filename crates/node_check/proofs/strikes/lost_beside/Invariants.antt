use Rattle.std.proofs.Common.{take}
use Rattle.node_check.specs.Strike.{AreLeft}
use Rattle.node_check.proofs.strikes.lost_beside.Given as goal

abbrev pub invariant-loop-fact : goal.invariant-loop-fact
invariant-loop-fact l = AreLeft l.lost (take l.fact-index l.facts)

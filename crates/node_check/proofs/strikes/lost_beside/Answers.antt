use Rattle.std.proofs.Common.{arith}
use Rattle.node_check.proofs.StrikeLemmas.{take_left}
use Rattle.node_check.proofs.strikes.lost_beside.Goals as goal

pub loop-fact-preserved : goal.loop-fact-preserved
loop-fact-preserved c =
    take_left c.loop-fact.lost c.restore.new.lost c.args.facts.now c.loop-fact.fact-index _
    (omega arith) c.loop-fact.invariant c.restore.ensures.fact c.restore.ensures.others

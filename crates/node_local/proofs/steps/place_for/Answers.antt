use Rattle.std.proofs.Common.{arith}
use Rattle.node_local.proofs.StartLemmas.{kept_here, kept_there}
use Rattle.node_local.proofs.steps.place_for.Goals as goal

pub returns-then-from-kept-clause-place : goal.returns-then-from-kept-clause-place
returns-then-from-kept-clause-place c words =
    kept_here c.args.kept.now c.args.from words c.loop-i.i c.index-kept-i.result (omega arith)
    (omega arith) (c.loop-i.invariant words)

pub loop-i-preserved : goal.loop-i-preserved
loop-i-preserved c words =
    kept_there c.args.kept.now c.args.from words c.loop-i.i c.index-kept-i.result (omega arith)
    (omega arith) (c.loop-i.invariant words)

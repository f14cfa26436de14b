use Rattle.lock_steps.proofs.EmittedLemmas.{comes_in_order}
use Rattle.lock_steps.proofs.laws.emitted_code_comes_in_order.Goals as goal

pub returns : goal.returns
returns c tree grid plan links same capable fits three =
    comes_in_order tree grid plan links
    (c.node_code_comes_as_planned.ensures.orders tree grid plan links same capable fits)
    (c.node_code_runs_as_its_plan.ensures.three tree grid plan three)

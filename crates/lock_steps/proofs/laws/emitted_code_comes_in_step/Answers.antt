use Rattle.node_emit.specs.Emit.{emitted}
use Rattle.lock_steps.proofs.laws.emitted_code_comes_in_step.Goals as goal

pub returns-clause-in_step : goal.returns-clause-in_step
returns-clause-in_step c tree grid flat plan links outcomes same capable fits three meant of =
    c.flat_runs_come_in_step.ensures.in_step flat plan (emitted tree grid plan) links outcomes meant
    of
    (c.emitted_code_comes_in_order.ensures tree grid plan links same capable fits three)

pub returns-clause-good : goal.returns-clause-good
returns-clause-good c tree grid flat plan links outcomes same capable fits three meant of =
    c.flat_runs_come_in_step.ensures.good flat plan (emitted tree grid plan) links outcomes meant of
    (c.emitted_code_comes_in_order.ensures tree grid plan links same capable fits three)

pub returns-clause-in_time : goal.returns-clause-in_time
returns-clause-in_time c tree grid flat plan links outcomes loops same capable fits three meant of
    least =
    c.flat_runs_come_in_step.ensures.in_time flat plan (emitted tree grid plan) links outcomes loops
    meant of
    (c.emitted_code_comes_in_order.ensures tree grid plan links same capable fits three) least

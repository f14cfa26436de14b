use Rattle.lock_steps.specs.Meant.{meanings, steps_in}
use Rattle.lock_steps.proofs.StepLemmas.{in_few, in_step}
use Rattle.lock_steps.proofs.laws.flat_runs_come_in_step.Goals as goal

pub returns-clause-in_step : goal.returns-clause-in_step
returns-clause-in_step c flat plan code links outcomes meant of orders =
    in_step flat plan code links outcomes meant of orders

pub returns-clause-good : goal.returns-clause-good
returns-clause-good c flat plan code links outcomes meant of orders =
    c.code_in_step_is_good.ensures code links (meanings outcomes)
    (in_step flat plan code links outcomes meant of orders)

pub returns-clause-in_time : goal.returns-clause-in_time
returns-clause-in_time c flat plan code links outcomes loops meant of orders least =
    c.code_ends_in_time.ensures code links (meanings outcomes) (steps_in outcomes) loops
    (in_few flat plan code links outcomes loops meant of orders least)

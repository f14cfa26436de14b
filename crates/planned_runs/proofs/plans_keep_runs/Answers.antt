use Rattle.planned_runs.proofs.PlanLemmas.{plans_keep}
use Rattle.planned_runs.proofs.plans_keep_runs.Goals as goal

pub returns : goal.returns
returns c = plans_keep

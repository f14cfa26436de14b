use Rattle.plan_passes.proofs.RepeatLemmas.{dropped_keep_runs}
use Rattle.plan_passes.proofs.repeated_exchanges_dropped_keep_runs.Goals as goal

pub returns : goal.returns
returns c = dropped_keep_runs

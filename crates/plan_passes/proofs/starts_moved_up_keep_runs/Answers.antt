use Rattle.plan_passes.proofs.EarlyRunLemmas.{early_keeps_runs}
use Rattle.plan_passes.proofs.starts_moved_up_keep_runs.Goals as goal

pub returns : goal.returns
returns c = λ code links over roomy fits units a n. early_keeps_runs code links over roomy n fits units a

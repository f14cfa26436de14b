use Rattle.plan_passes.proofs.MergeLemmas.{merged_keep_runs}
use Rattle.plan_passes.proofs.neighbours_merged_keep_runs.Goals as goal

pub returns : goal.returns
returns c = merged_keep_runs

use Rattle.bound_check.proofs.KeptLemmas.{runs_kept}
use Rattle.bound_check.proofs.checks_left_out_keep_runs.Goals as goal

pub returns : goal.returns
returns c = runs_kept

use Rattle.normal_runs.proofs.KeptLemmas.{runs_kept}
use Rattle.normal_runs.proofs.values_through_temporaries_keep_runs.Goals as goal

pub returns : goal.returns
returns c = λ tables fits a n. runs_kept tables fits n a

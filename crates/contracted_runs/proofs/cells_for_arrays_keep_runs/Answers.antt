use Rattle.contracted_runs.proofs.KeptLemmas.{runs_kept}
use Rattle.contracted_runs.proofs.cells_for_arrays_keep_runs.Goals as goal

pub returns : goal.returns
returns c = λ tables fits three a n. runs_kept tables fits three n a

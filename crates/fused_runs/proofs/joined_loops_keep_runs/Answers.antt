use Rattle.fused_runs.proofs.ForthLemmas.{fused_shows}
use Rattle.fused_runs.proofs.joined_loops_keep_runs.Goals as goal

pub returns : goal.returns
returns c = λ code fits typed none a n. fused_shows code n fits typed none a

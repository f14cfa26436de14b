use Rattle.fused_runs.proofs.KeptLemmas.{fused_keeps}
use Rattle.fused_runs.proofs.joined_loops_show_the_same.Goals as goal

pub returns : goal.returns
returns c = λ code fits none a n. fused_keeps code n fits none a

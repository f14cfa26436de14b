use Rattle.loop_runs.proofs.LoopLemmas.{loops_agree}
use Rattle.loop_runs.proofs.loops_agree.Goals as goal

pub returns : goal.returns
returns c = loops_agree

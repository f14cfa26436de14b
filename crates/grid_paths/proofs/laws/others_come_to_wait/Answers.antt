use Rattle.grid_paths.proofs.HaltLemmas.{halts}
use Rattle.grid_paths.proofs.laws.others_come_to_wait.Goals as goal

pub returns : goal.returns
returns g c = λ machine start capacity. halts _

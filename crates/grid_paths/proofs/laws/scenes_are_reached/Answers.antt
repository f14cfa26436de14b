use Rattle.grid_paths.proofs.ReachLemmas.{reaches_from}
use Rattle.grid_paths.proofs.laws.scenes_are_reached.Goals as goal

pub returns : goal.returns
returns g c = λ machine start capacity. reaches_from _

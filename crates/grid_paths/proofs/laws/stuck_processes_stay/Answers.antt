use Rattle.grid_paths.proofs.StuckLemmas.{stays_stuck}
use Rattle.grid_paths.proofs.laws.stuck_processes_stay.Goals as goal

pub returns : goal.returns
returns g c = λ machine start capacity. stays_stuck _

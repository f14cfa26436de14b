use Rattle.grid_paths.proofs.AloneLemmas.{runs_alone}
use Rattle.grid_paths.proofs.laws.processes_run_alone.Goals as goal

pub returns : goal.returns
returns g c = λ machine start capacity. runs_alone _

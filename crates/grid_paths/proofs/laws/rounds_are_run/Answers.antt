use Rattle.grid_paths.proofs.RoundLemmas.{runs_in_turn}
use Rattle.grid_paths.proofs.laws.rounds_are_run.Goals as goal

pub returns : goal.returns
returns g c = λ machine start capacity. runs_in_turn _

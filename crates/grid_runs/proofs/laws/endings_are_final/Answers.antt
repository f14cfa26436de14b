use Rattle.grid_runs.proofs.EndLemmas.{ends_final, onward_final, run_final}
use Rattle.grid_runs.proofs.laws.endings_are_final.Goals as goal

pub returns : goal.returns
returns c = record { orders = ends_final; runs = run_final; onward = onward_final }

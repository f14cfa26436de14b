use Rattle.grid_runs.proofs.TurnLemmas.{turns_at}
use Rattle.grid_runs.proofs.laws.turns_count.Goals as goal

pub returns : goal.returns
returns c = turns_at

use Rattle.array_runs.proofs.WholeLemmas.{array_agrees}
use Rattle.array_runs.proofs.laws.array_assignments_go_alike.Goals as goal

pub returns : goal.returns
returns c = array_agrees

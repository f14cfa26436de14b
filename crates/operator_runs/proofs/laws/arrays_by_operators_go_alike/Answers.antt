use Rattle.operator_runs.proofs.FormLemmas.{array_goes}
use Rattle.operator_runs.proofs.laws.arrays_by_operators_go_alike.Goals as goal

pub returns : goal.returns
returns c = array_goes

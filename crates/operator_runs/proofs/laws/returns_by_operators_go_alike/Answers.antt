use Rattle.operator_runs.proofs.ReturnLemmas.{return_goes}
use Rattle.operator_runs.proofs.laws.returns_by_operators_go_alike.Goals as goal

pub returns : goal.returns
returns c = return_goes

use Rattle.operator_runs.proofs.FormLemmas.{scalar_goes}
use Rattle.operator_runs.proofs.laws.scalars_by_operators_go_alike.Goals as goal

pub returns : goal.returns
returns c = scalar_goes

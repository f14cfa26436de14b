use Rattle.operator_runs.proofs.ValueLemmas.{operated_values}
use Rattle.operator_runs.proofs.laws.values_by_operators_go_alike.Goals as goal

pub returns : goal.returns
returns c = operated_values

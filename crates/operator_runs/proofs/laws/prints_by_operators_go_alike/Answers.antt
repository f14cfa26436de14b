use Rattle.operator_runs.proofs.PrintLemmas.{prints_go}
use Rattle.operator_runs.proofs.laws.prints_by_operators_go_alike.Goals as goal

pub returns : goal.returns
returns c = prints_go

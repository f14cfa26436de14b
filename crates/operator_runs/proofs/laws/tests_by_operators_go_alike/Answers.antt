use Rattle.operator_runs.proofs.TestLemmas.{tests_go}
use Rattle.operator_runs.proofs.laws.tests_by_operators_go_alike.Goals as goal

pub returns : goal.returns
returns c = tests_go

use Rattle.array_runs.proofs.FormLemmas.{assign_goes}
use Rattle.array_runs.proofs.laws.array_statements_go_alike.Goals as goal

pub returns : goal.returns
returns c = assign_goes

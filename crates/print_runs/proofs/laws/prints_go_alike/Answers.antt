use Rattle.print_runs.proofs.WriteLemmas.{prints_go}
use Rattle.print_runs.proofs.laws.prints_go_alike.Goals as goal

pub returns : goal.returns
returns c = prints_go

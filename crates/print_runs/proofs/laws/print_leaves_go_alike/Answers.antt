use Rattle.print_runs.proofs.WriteLemmas.{print_leaves}
use Rattle.print_runs.proofs.laws.print_leaves_go_alike.Goals as goal

pub returns : goal.returns
returns c = print_leaves

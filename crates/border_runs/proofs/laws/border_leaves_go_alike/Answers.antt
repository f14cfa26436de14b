use Rattle.border_runs.proofs.BorderLemmas.{border_leaves}
use Rattle.border_runs.proofs.laws.border_leaves_go_alike.Goals as goal

pub returns : goal.returns
returns c = border_leaves

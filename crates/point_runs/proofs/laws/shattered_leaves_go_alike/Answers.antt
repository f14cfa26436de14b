use Rattle.point_runs.proofs.SplitLemmas.{split_leaves}
use Rattle.point_runs.proofs.laws.shattered_leaves_go_alike.Goals as goal

pub returns : goal.returns
returns c = split_leaves

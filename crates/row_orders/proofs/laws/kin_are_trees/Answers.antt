use Rattle.row_orders.proofs.TreeLemmas.{are_trees}
use Rattle.row_orders.proofs.laws.kin_are_trees.Goals as goal

pub returns : goal.returns
returns c = are_trees

use Rattle.row_orders.proofs.SumLemmas.{agree_as_tree}
use Rattle.row_orders.proofs.laws.rows_agree_as_trees.Goals as goal

pub returns : goal.returns
returns c = agree_as_tree

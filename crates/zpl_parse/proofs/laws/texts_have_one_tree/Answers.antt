use Rattle.zpl_parse.proofs.OneTree.{one_tree, placed_once}
use Rattle.zpl_parse.proofs.laws.texts_have_one_tree.Goals as goal

pub returns-clause-tree : goal.returns-clause-tree
returns-clause-tree c = placed_once

pub returns-clause-shape : goal.returns-clause-shape
returns-clause-shape c = one_tree

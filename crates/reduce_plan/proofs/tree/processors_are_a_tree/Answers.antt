use Rattle.reduce_plan.proofs.TreeLemmas.{child_is, in_tree, parent_is}
use Rattle.reduce_plan.proofs.tree.processors_are_a_tree.Goals as goal

pub returns-clause-one_parent : goal.returns-clause-one_parent
returns-clause-one_parent c = λ count p c. (parent_is count p c, child_is count p c)

pub returns-clause-whole : goal.returns-clause-whole
returns-clause-whole c = in_tree

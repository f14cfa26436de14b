use Rattle.flat_form.proofs.TreeLemmas.{groups_inline}
use Rattle.flat_form.proofs.laws.inline_groups_have_the_same_trees.Goals as goal

pub returns : goal.returns
returns c = groups_inline

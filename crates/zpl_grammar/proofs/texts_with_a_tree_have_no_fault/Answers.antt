use Rattle.zpl_grammar.proofs.Faults.{tree_no_fault, tree_not_deep}
use Rattle.zpl_grammar.proofs.texts_with_a_tree_have_no_fault.Goals as goal

pub returns-clause-syntax : goal.returns-clause-syntax
returns-clause-syntax c = tree_no_fault

pub returns-clause-too_deep : goal.returns-clause-too_deep
returns-clause-too_deep c = tree_not_deep

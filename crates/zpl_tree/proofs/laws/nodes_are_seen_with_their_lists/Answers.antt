use Rattle.zpl_tree.proofs.Views.{at_of-form, dir_of-Vector, form_of-Call, form_of-Remap, inner_of-Dims, statement_of-Block, statement_of-Choice, statement_of-For, statement_of-Repeat, statement_of-While}
use Rattle.zpl_tree.proofs.laws.nodes_are_seen_with_their_lists.Goals as goal

pub returns-clause-call : goal.returns-clause-call
returns-clause-call c = form_of-Call

pub returns-clause-remap : goal.returns-clause-remap
returns-clause-remap c = form_of-Remap

pub returns-clause-vector : goal.returns-clause-vector
returns-clause-vector c = dir_of-Vector

pub returns-clause-dims : goal.returns-clause-dims
returns-clause-dims c = inner_of-Dims

pub returns-clause-block : goal.returns-clause-block
returns-clause-block c = statement_of-Block

pub returns-clause-while_loop : goal.returns-clause-while_loop
returns-clause-while_loop c = statement_of-While

pub returns-clause-repeat_loop : goal.returns-clause-repeat_loop
returns-clause-repeat_loop c = statement_of-Repeat

pub returns-clause-for_loop : goal.returns-clause-for_loop
returns-clause-for_loop c = statement_of-For

pub returns-clause-choice : goal.returns-clause-choice
returns-clause-choice c = statement_of-Choice

pub returns-clause-offset : goal.returns-clause-offset
returns-clause-offset c = at_of-form

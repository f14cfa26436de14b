use Rattle.std.proofs.Common.{rules}
use Rattle.grid_order.specs.Item.{item_of}
use Rattle.grid_order.proofs.words.item_of.Goals as goal

pub returns-in_err-processor : goal.returns-in_err-processor
unfolding item_of
returns-in_err-processor c = search rules

pub returns-in_default : goal.returns-in_default
unfolding item_of
returns-in_default c = search rules

pub returns : goal.returns
unfolding item_of
returns c = search rules

use Rattle.zpl_text.proofs.InOrder.{tokens_in_order, found_in_order}
use Rattle.zpl_text.proofs.laws.tokens_are_in_order.Goals as goal

pub returns-clause-tokens : goal.returns-clause-tokens
returns-clause-tokens c = tokens_in_order

pub returns-clause-found : goal.returns-clause-found
returns-clause-found c = found_in_order

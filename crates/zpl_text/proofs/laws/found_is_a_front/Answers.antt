use Rattle.zpl_text.proofs.InOrder.{found_front, found_front_of_fault}
use Rattle.zpl_text.proofs.laws.found_is_a_front.Goals as goal

pub returns-clause-tokens : goal.returns-clause-tokens
returns-clause-tokens c = found_front

pub returns-clause-fault : goal.returns-clause-fault
returns-clause-fault c = found_front_of_fault

use Rattle.zpl_text.proofs.InOrder.{fault_below}
use Rattle.zpl_text.proofs.laws.faults_are_in_the_text.Goals as goal

pub returns : goal.returns
returns c = fault_below

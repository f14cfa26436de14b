use Rattle.node_form.proofs.GrowthLemmas.{FitsWord-grows, FitsExpr-grows, FitsGroup-grows, FitsExchange-grows, FitsInstr-grows}
use Rattle.node_form.proofs.laws.growth_keeps_numbers.Goals as goal

pub returns : goal.returns
returns c = record { word = FitsWord-grows; expr = FitsExpr-grows; group = FitsGroup-grows; exchange = FitsExchange-grows; instr = FitsInstr-grows }

use Rattle.node_form.proofs.GrowthLemmas.{Fits-slot, Fits-array, Fits-text, Fits-expr, Fits-group, Fits-exchange, Fits-instr, Fits-scalars, Fits-cells}
use Rattle.node_form.proofs.laws.growth_keeps_fit.Goals as goal

pub returns : goal.returns
returns c = record { slot = Fits-slot; array = Fits-array; text = Fits-text; expr = Fits-expr; group = Fits-group; exchange = Fits-exchange; instr = Fits-instr; scalars = Fits-scalars; cells = Fits-cells }

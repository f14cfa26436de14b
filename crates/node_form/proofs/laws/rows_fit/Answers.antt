use Rattle.node_form.proofs.GrowthLemmas.{Fits-slot-row, Fits-array-row, Fits-expr-row, Fits-group-row, Fits-exchange-row, Fits-instr-row}
use Rattle.node_form.proofs.laws.rows_fit.Goals as goal

pub returns : goal.returns
returns c = record { slot = Fits-slot-row; array = Fits-array-row; expr = Fits-expr-row; group = Fits-group-row; exchange = Fits-exchange-row; instr = Fits-instr-row }

use Rattle.flat_code.proofs.FitLemmas.{tables_fit}
use Rattle.flat_code.proofs.laws.node_tables_fit.Goals as goal

pub returns : goal.returns
returns c = tables_fit

use Rattle.row_orders.proofs.RowLemmas.{are_blind}
use Rattle.row_orders.proofs.laws.rows_are_blind.Goals as goal

pub returns : goal.returns
returns c = are_blind

use Rattle.row_orders.proofs.ExchangeLemmas.{delivers}
use Rattle.row_orders.proofs.laws.rows_deliver.Goals as goal

pub returns : goal.returns
returns c = delivers

use Rattle.row_orders.proofs.ExchangeLemmas.{exchanges}
use Rattle.row_orders.proofs.laws.rows_exchange.Goals as goal

pub returns : goal.returns
returns c = exchanges

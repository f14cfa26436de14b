use Rattle.plan_orders.proofs.RowLemmas.{have_orders}
use Rattle.plan_orders.proofs.laws.rows_have_orders.Goals as goal

pub returns : goal.returns
returns c = have_orders

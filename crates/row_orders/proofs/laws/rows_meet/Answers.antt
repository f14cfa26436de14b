use Rattle.row_orders.proofs.DeliveryLemmas.{meets}
use Rattle.row_orders.proofs.laws.rows_meet.Goals as goal

pub returns : goal.returns
returns c = meets

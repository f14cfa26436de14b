use Rattle.row_orders.proofs.HaltLemmas.{halt}
use Rattle.row_orders.proofs.laws.rows_halt.Goals as goal

pub returns : goal.returns
returns c = halt

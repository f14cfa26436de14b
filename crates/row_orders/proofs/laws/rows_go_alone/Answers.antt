use Rattle.row_orders.proofs.QuietLemmas.{go_alone}
use Rattle.row_orders.proofs.laws.rows_go_alone.Goals as goal

pub returns : goal.returns
returns c = go_alone

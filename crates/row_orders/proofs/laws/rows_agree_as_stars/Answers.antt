use Rattle.row_orders.proofs.StarLemmas.{agree_as_star}
use Rattle.row_orders.proofs.laws.rows_agree_as_stars.Goals as goal

pub returns : goal.returns
returns c = agree_as_star

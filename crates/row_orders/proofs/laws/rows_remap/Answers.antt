use Rattle.row_orders.proofs.HalfLemmas.{remaps}
use Rattle.row_orders.proofs.laws.rows_remap.Goals as goal

pub returns : goal.returns
returns c = remaps

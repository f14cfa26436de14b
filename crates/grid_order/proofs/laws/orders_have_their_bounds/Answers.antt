use Rattle.grid_order.proofs.LawLemmas.{order_below, order_few}
use Rattle.grid_order.proofs.laws.orders_have_their_bounds.Goals as goal

pub returns-clause-below : goal.returns-clause-below
returns-clause-below c = order_below

pub returns-clause-few : goal.returns-clause-few
returns-clause-few c = order_few

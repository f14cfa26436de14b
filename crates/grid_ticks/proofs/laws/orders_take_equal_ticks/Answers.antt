use Rattle.grid_ticks.proofs.ToldLemmas.{equal_ticks}
use Rattle.grid_ticks.proofs.laws.orders_take_equal_ticks.Goals as goal

pub returns : goal.returns
returns g c = λ machine start capacity. equal_ticks _ (c.orders_end_alike.ensures machine start capacity)

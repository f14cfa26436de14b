use Rattle.grid_meaning.specs.Local.{start_locals}
use Rattle.node_ticks.proofs.laws.orders_take_equal_ticks.Goals as goal

pub returns : goal.returns
returns c = λ code links. c.orders_take_equal_ticks.ensures code (start_locals code) links

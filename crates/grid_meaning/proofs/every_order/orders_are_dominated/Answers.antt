use Rattle.grid_meaning.specs.Local.{start_locals}
use Rattle.grid_meaning.proofs.every_order.orders_are_dominated.Goals as goal

pub returns-clause-moves : goal.returns-clause-moves
returns-clause-moves c code links = c.orders_are_dominated.ensures code (start_locals code) links

use Rattle.grid_meaning.proofs.GridLemmas.{after-push, after-append, world-after}
use Rattle.grid_meaning.proofs.laws.orders_go_on.Goals as goal

pub returns : goal.returns
returns c = record { turn = after-push; turns = after-append; world = world-after }

use Rattle.grid_links.specs.Laws.{system_of}
use Rattle.grid_paths.proofs.RoomLemmas.{holds_as_much}
use Rattle.grid_paths.proofs.laws.orders_hold_as_much.Goals as goal

pub returns : goal.returns
returns g c = λ machine start capacity.
    holds_as_much (system_of (g.T.Machine.act machine) (g.T.Machine.fed machine) start capacity)

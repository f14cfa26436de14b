use Rattle.grid_links.specs.Laws.{system_of}
use Rattle.grid_links.proofs.CapacityLemmas.{keeps_capacity}
use Rattle.grid_links.proofs.laws.links_keep_their_capacity.Goals as goal

pub returns : goal.returns
returns g c = λ machine start capacity order. keeps_capacity (system_of (g.T.Machine.act machine) (g.T.Machine.fed machine) start capacity) order

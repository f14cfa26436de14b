use Rattle.grid_links.proofs.EndLemmas.{never_idle}
use Rattle.grid_links.proofs.laws.no_order_is_idle.Goals as goal

pub returns : goal.returns
returns g c = λ machine start capacity x w many reaches short busy idle. never_idle _ x w many reaches short busy idle

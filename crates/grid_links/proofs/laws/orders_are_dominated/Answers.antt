use Rattle.grid_links.proofs.DominationLemmas.{Begins-dominated}
use Rattle.grid_links.proofs.laws.orders_are_dominated.Goals as goal

pub returns : goal.returns
returns g c = λ machine start capacity x w many reaches short. Begins-dominated _ x many reaches w short

use Rattle.grid_links.proofs.LapLemmas.{goes_on}
use Rattle.grid_links.proofs.laws.orders_go_on.Goals as goal

pub returns : goal.returns
returns g c = λ machine start capacity. goes_on _

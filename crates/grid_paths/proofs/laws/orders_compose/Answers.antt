use Rattle.grid_paths.proofs.RoundLemmas.{composes}
use Rattle.grid_paths.proofs.laws.orders_compose.Goals as goal

pub returns : goal.returns
returns g c = λ machine start capacity. composes _

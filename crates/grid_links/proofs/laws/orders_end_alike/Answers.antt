use Rattle.grid_links.proofs.EndLemmas.{ends_alike}
use Rattle.grid_links.proofs.laws.orders_end_alike.Goals as goal

pub returns : goal.returns
returns g c = λ machine start capacity x y over also. ends_alike _ x y over also

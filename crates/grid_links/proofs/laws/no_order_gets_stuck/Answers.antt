use Rattle.grid_links.proofs.DominationLemmas.{never_stuck}
use Rattle.grid_links.proofs.laws.no_order_gets_stuck.Goals as goal

pub returns : goal.returns
returns g c = λ machine start capacity x w many reaches short stuck. never_stuck _ x many reaches w short stuck

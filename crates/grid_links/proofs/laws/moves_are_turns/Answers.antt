use Rattle.grid_links.proofs.LapLemmas.{counts_moves}
use Rattle.grid_links.proofs.laws.moves_are_turns.Goals as goal

pub returns : goal.returns
returns g c = λ machine start capacity. counts_moves _

use Rattle.grid_links.proofs.LapLemmas.{ends_in_laps}
use Rattle.grid_links.proofs.laws.rounds_end_all.Goals as goal

pub returns : goal.returns
returns g c = λ machine start capacity x w more rounds over enough. ends_in_laps _ x over w more rounds enough

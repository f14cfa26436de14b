use Rattle.grid_links.specs.Laws.{system_of}
use Rattle.grid_ticks.proofs.ToldLemmas.{tells_moves}
use Rattle.grid_ticks.proofs.laws.moves_are_told.Goals as goal

pub returns : goal.returns
returns g c = λ machine start capacity.
    tells_moves (system_of (g.T.Machine.act machine) (g.T.Machine.fed machine) start capacity)

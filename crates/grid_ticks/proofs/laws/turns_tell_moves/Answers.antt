use Rattle.grid_links.specs.Laws.{system_of}
use Rattle.grid_ticks.proofs.ToldLemmas.{tells_on}
use Rattle.grid_ticks.proofs.laws.turns_tell_moves.Goals as goal

pub returns : goal.returns
returns g c = λ machine start capacity.
    tells_on (system_of (g.T.Machine.act machine) (g.T.Machine.fed machine) start capacity)
    (c.links_keep_their_messages.ensures machine start capacity)

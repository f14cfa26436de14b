use Rattle.grid_meaning.proofs.GridLemmas.{after-over}
use Rattle.grid_meaning.proofs.laws.over_stays.Goals as goal

pub returns : goal.returns
returns c = after-over

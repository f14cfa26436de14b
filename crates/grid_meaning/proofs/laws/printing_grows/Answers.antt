use Rattle.grid_meaning.proofs.GridLemmas.{IsFrontOf-after}
use Rattle.grid_meaning.proofs.laws.printing_grows.Goals as goal

pub returns : goal.returns
returns c = IsFrontOf-after

use Rattle.grid_meaning.proofs.GridLemmas.{turns-after, length-after}
use Rattle.grid_meaning.proofs.laws.turns_count.Goals as goal

pub returns : goal.returns
returns c = record { turns = turns-after; locals = length-after }

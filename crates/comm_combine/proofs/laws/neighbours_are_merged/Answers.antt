use Rattle.comm_combine.proofs.NeighbourLemmas.{none_left, still_new}
use Rattle.comm_combine.proofs.laws.neighbours_are_merged.Goals as goal

pub returns : goal.returns
returns c = record { merged = none_left; not_redundant = still_new }

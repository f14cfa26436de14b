use Rattle.grid_layout.proofs.HeldLemmas.{needs_of}
use Rattle.grid_layout.proofs.laws.pieces_partition_needs.Goals as goal

pub returns : goal.returns
returns c = needs_of

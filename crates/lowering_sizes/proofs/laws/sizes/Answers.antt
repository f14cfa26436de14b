use Rattle.lowering_sizes.proofs.TextLemmas.{size_law}
use Rattle.lowering_sizes.proofs.laws.sizes.Goals as goal

pub returns : goal.returns
returns c = size_law

use Rattle.lowering_sizes.proofs.CountedProgram.{count_law}
use Rattle.lowering_sizes.proofs.laws.counted.Goals as goal

pub returns : goal.returns
returns c = count_law

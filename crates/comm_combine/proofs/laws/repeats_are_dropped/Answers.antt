use Rattle.comm_combine.proofs.NewLemmas.{no_repeats}
use Rattle.comm_combine.proofs.laws.repeats_are_dropped.Goals as goal

pub returns : goal.returns
returns c = no_repeats

use Rattle.nest_meaning.proofs.PartLemmas.{units_are_spelled}
use Rattle.nest_meaning.proofs.TreeLemmas.{reads_again, reads_only}
use Rattle.nest_meaning.proofs.laws.members_are_read_as_trees.Goals as goal

pub returns : goal.returns
returns c = record { again = reads_again; only = reads_only; units = units_are_spelled }

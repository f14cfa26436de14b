use Rattle.nest_meaning.proofs.ComeLemmas.{come_to_the_same}
use Rattle.nest_meaning.proofs.laws.members_come_to_the_same.Goals as goal

pub returns : goal.returns
returns g c = come_to_the_same _

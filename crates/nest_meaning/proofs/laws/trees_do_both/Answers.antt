use Rattle.nest_meaning.proofs.JoinLemmas.{do_both, join_members, join_units}
use Rattle.nest_meaning.proofs.laws.trees_do_both.Goals as goal

pub returns : goal.returns
returns g c = record { both = λ ways. do_both ways; members = join_members; units = join_units }

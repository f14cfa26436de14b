use Rattle.nest_meaning.proofs.UnitLemmas.{do_units}
use Rattle.nest_meaning.proofs.laws.trees_do_their_units.Goals as goal

pub returns : goal.returns
returns g c = λ ways. do_units ways

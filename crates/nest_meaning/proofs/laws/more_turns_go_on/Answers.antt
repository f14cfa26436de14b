use Rattle.nest_meaning.proofs.GrowthLemmas.{grow}
use Rattle.nest_meaning.proofs.JoinLemmas.{want_nothing}
use Rattle.nest_meaning.proofs.laws.more_turns_go_on.Goals as goal

pub returns : goal.returns
returns g c = record { turns = λ ways. grow ways; loops = λ ways. want_nothing ways }

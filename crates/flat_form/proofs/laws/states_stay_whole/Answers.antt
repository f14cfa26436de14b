use Rattle.flat_form.proofs.WholeLemmas.{begin_whole, stay_whole}
use Rattle.flat_form.proofs.laws.states_stay_whole.Goals as goal

pub returns : goal.returns
returns c = record { begin = begin_whole; stay = stay_whole }

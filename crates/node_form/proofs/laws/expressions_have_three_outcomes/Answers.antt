use Rattle.node_form.proofs.ValueLemmas.{value_of-Divides, value_of-Lacks}
use Rattle.node_form.proofs.laws.expressions_have_three_outcomes.Goals as goal

pub returns : goal.returns
returns c = record { divides = value_of-Divides; lacks = value_of-Lacks }

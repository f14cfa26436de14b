use Rattle.node_form.proofs.ValueLemmas.{evaluated-words_of, value_of-words_of}
use Rattle.node_form.proofs.laws.words_push_their_value.Goals as goal

pub returns : goal.returns
returns c = record { pushes = evaluated-words_of; value = value_of-words_of }

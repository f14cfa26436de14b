use Rattle.node_form.proofs.ValueLemmas.{evaluated-append, evaluated-length}
use Rattle.node_form.proofs.laws.words_evaluate_in_turn.Goals as goal

pub returns : goal.returns
returns c = record { joined = evaluated-append; short = evaluated-length }

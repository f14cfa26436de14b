use Rattle.state_reading.proofs.OneState.{state_left, state_not, state_one}
use Rattle.state_reading.proofs.laws.states_have_one_reading.Goals as goal

pub returns : goal.returns
returns c = record {
  states = λ code p lines rest behind one other three r q. let same = state_one code p three lines one other rest behind r q in (same.value, same.behind);
  apart = λ code p lines rest left state three r breaks. state_not code p three lines state rest left r breaks;
  left = λ code p lines left other three one next. state_left code p three lines left other one next;
}

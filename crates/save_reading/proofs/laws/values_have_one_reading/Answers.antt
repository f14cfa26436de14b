use Rattle.save_reading.proofs.OneReading.{breaks_one, values_not, values_one}
use Rattle.save_reading.proofs.laws.values_have_one_reading.Goals as goal

pub returns : goal.returns
returns c = record {
  values = λ code p lines rest behind one other three r q. let same = values_one code p three lines one other rest behind r q in (same.value, same.behind);
  apart = λ code p lines rest left local three r breaks. values_not code p three lines local rest left r breaks;
  left = λ code p lines left other three one next. breaks_one code p three lines left other one next;
}

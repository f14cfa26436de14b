use Rattle.std.proofs.Common.{[], refl}
use Rattle.grid_save.specs.Reads.{IsMessageLine, is_message}
use Rattle.save_reading.proofs.OneLine.{message_told}
use Rattle.save_reading.proofs.OneWay.{run_left, run_not, run_one}
use Rattle.save_reading.proofs.laws.messages_have_one_reading.Goals as goal

pub returns : goal.returns
returns c = record {
  messages = λ code p lines rest behind one other r q. let same = run_one is_message (IsMessageLine code p) (message_told code p) r q refl refl in (same.value, same.behind);
  apart = λ code p lines rest left sent r breaks. run_not is_message (IsMessageLine code p) (message_told code p) r breaks refl refl;
  left = λ code p lines left other one next. run_left is_message (IsMessageLine code p) (message_told code p) one next refl refl;
}

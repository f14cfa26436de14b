use Rattle.message_runs.proofs.PrintRows.{number_agrees, text_agrees, truth_agrees}
use Rattle.message_runs.proofs.prints_agree.Goals as goal

pub returns : goal.returns
returns c = record { texts = text_agrees; numbers = number_agrees; truths = truth_agrees }

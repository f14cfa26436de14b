use Rattle.save_lines.proofs.Steps.{lines_or_fault, one_fault, one_reading}
use Rattle.save_lines.proofs.laws.bytes_have_one_reading.Goals as goal

pub returns-clause-lines : goal.returns-clause-lines
returns-clause-lines c = one_reading

pub returns-clause-apart : goal.returns-clause-apart
returns-clause-apart c = lines_or_fault

pub returns-clause-fault : goal.returns-clause-fault
returns-clause-fault c = one_fault

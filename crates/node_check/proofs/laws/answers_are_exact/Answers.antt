use Rattle.node_check.proofs.AnswerLemmas.{large_alone, no_fault, one_fault, one_number}
use Rattle.node_check.proofs.laws.answers_are_exact.Goals as goal

pub returns-clause-faults : goal.returns-clause-faults
returns-clause-faults c code links fault checked faulty = no_fault code links fault checked faulty

pub returns-clause-links : goal.returns-clause-links
returns-clause-links c code one other first second = one_number code one other first second

pub returns-clause-large : goal.returns-clause-large
returns-clause-large c code fault wanted large faulty = large_alone code fault wanted large faulty

pub returns-clause-one : goal.returns-clause-one
returns-clause-one c code one other lists here there first second =
    one_fault code lists one other here there first second

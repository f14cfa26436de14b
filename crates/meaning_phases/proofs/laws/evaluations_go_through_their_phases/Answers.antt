use Rattle.meaning_phases.proofs.StatementLemmas.{tested, headed, called}
use Rattle.meaning_phases.proofs.laws.evaluations_go_through_their_phases.Goals as goal

pub returns : goal.returns
returns c = record { tests = tested; heads = headed; calls = called }

use Rattle.resume_claims.proofs.JoinedLemmas.{are_one, ends_as_one}
use Rattle.resume_claims.proofs.laws.runs_go_on.Goals as goal

pub returns-clause-one : goal.returns-clause-one
returns-clause-one c = are_one

pub returns-clause-ends : goal.returns-clause-ends
returns-clause-ends c = ends_as_one

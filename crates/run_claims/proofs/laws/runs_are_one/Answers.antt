use Rattle.run_claims.proofs.RunLemmas.{run_is_one}
use Rattle.run_claims.proofs.laws.runs_are_one.Goals as goal

pub returns : goal.returns
returns c = run_is_one

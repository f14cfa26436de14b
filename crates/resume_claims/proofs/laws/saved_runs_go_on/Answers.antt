use Rattle.resume_claims.proofs.JoinedLemmas.{saved_on}
use Rattle.resume_claims.proofs.laws.saved_runs_go_on.Goals as goal

pub returns : goal.returns
returns c = saved_on c.texts_tell_one_grid.ensures

use Rattle.flat_form.proofs.ReadLemmas.{patch}
use Rattle.flat_form.proofs.laws.goals_may_be_patched.Goals as goal

pub returns : goal.returns
returns c = patch

use Rattle.flat_form.proofs.GrowthLemmas.{grow}
use Rattle.flat_form.proofs.laws.longer_flat_runs_go_on.Goals as goal

pub returns : goal.returns
returns c = grow

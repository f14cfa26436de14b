use Rattle.array_runs.proofs.FloodLemmas.{served_goes}
use Rattle.array_runs.proofs.laws.known_arrays_go_alike.Goals as goal

pub returns : goal.returns
returns c = served_goes

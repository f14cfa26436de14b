use Rattle.border_runs.proofs.BorderLemmas.{borders_go}
use Rattle.border_runs.proofs.laws.borders_go_alike.Goals as goal

pub returns : goal.returns
returns c = borders_go

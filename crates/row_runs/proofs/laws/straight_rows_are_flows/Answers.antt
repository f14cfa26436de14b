use Rattle.row_runs.proofs.StraightLemmas.{walked_straight}
use Rattle.row_runs.proofs.laws.straight_rows_are_flows.Goals as goal

pub returns : goal.returns
returns g c = λ act. walked_straight act

use Rattle.message_runs.proofs.FloodRows.{flood_agrees}
use Rattle.message_runs.proofs.floods_agree.Goals as goal

pub returns : goal.returns
returns c = flood_agrees

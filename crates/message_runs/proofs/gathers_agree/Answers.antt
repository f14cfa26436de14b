use Rattle.message_runs.proofs.GatherRows.{gather_agrees}
use Rattle.message_runs.proofs.gathers_agree.Goals as goal

pub returns : goal.returns
returns c = gather_agrees

use Rattle.message_runs.proofs.PartRows.{part_agrees}
use Rattle.message_runs.proofs.parts_agree.Goals as goal

pub returns : goal.returns
returns c = part_agrees

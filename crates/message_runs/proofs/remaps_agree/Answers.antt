use Rattle.message_runs.proofs.RemapRows.{remap_agrees}
use Rattle.message_runs.proofs.remaps_agree.Goals as goal

pub returns : goal.returns
returns c = remap_agrees

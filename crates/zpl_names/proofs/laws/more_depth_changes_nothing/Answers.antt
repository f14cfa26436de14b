use Rattle.zpl_names.proofs.ExpansionLemmas.{deeper-numbers, deeper-instances}
use Rattle.zpl_names.proofs.laws.more_depth_changes_nothing.Goals as goal

pub returns : goal.returns
returns c = record { numbers = deeper-numbers; calls = deeper-instances }

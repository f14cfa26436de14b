use Rattle.top_call.proofs.SureLemmas.{are_sure}
use Rattle.top_call.proofs.laws.kept_files_are_sure.Goals as goal

pub returns : goal.returns
returns c = are_sure

use Rattle.zpl_names.proofs.NameLemmas.{procedure_is_there}
use Rattle.zpl_names.proofs.laws.procedures_are_there.Goals as goal

pub returns : goal.returns
returns c = procedure_is_there

use Rattle.zpl_names.proofs.ReachedLemmas.{entry_is_shallow}
use Rattle.zpl_names.proofs.laws.faultless_programs_are_shallow.Goals as goal

pub returns : goal.returns
returns c = entry_is_shallow

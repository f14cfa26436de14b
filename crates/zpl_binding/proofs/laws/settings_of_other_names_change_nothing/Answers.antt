use Rattle.zpl_binding.proofs.DeclarationLemmas.{known-alike, bound-alike}
use Rattle.zpl_binding.proofs.laws.settings_of_other_names_change_nothing.Goals as goal

pub returns : goal.returns
returns c = record { known = known-alike; bound = bound-alike }

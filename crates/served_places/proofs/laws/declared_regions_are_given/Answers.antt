use Rattle.served_places.proofs.SlotLemmas.{declared_given}
use Rattle.served_places.proofs.laws.declared_regions_are_given.Goals as goal

pub returns : goal.returns
returns c = declared_given

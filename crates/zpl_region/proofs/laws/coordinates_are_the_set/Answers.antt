use Rattle.zpl_region.proofs.LawLemmas.{coordinates_ascend, coordinates_iff}
use Rattle.zpl_region.proofs.laws.coordinates_are_the_set.Goals as goal

pub returns : goal.returns
returns c = record { set = coordinates_iff; ascending = coordinates_ascend }

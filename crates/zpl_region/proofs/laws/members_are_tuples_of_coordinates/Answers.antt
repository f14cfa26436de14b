use Rattle.zpl_region.proofs.LawLemmas.{members_iff}
use Rattle.zpl_region.proofs.laws.members_are_tuples_of_coordinates.Goals as goal

pub returns : goal.returns
returns c = members_iff

use Rattle.scan_plan.proofs.OwnedLemmas.{owned_region}
use Rattle.scan_plan.proofs.laws.owned_parts_are_regions.Goals as goal

pub returns : goal.returns
returns c = owned_region

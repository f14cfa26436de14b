use Rattle.grid_layout.proofs.PartLemmas.{parts_of_owners}
use Rattle.grid_layout.proofs.laws.owners_partition_regions.Goals as goal

pub returns : goal.returns
returns c = parts_of_owners

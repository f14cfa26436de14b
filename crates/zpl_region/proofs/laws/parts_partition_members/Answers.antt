use Rattle.zpl_region.specs.Region.{members}
use Rattle.zpl_region.proofs.LawLemmas.{parts_partition}
use Rattle.zpl_region.proofs.laws.parts_partition_members.Goals as goal

pub returns : goal.returns
returns c = λ r numbers has one. parts_partition has numbers (members r) one

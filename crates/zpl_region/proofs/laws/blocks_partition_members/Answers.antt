use Rattle.zpl_region.proofs.LawLemmas.{blocks_partition}
use Rattle.zpl_region.proofs.laws.blocks_partition_members.Goals as goal

pub returns : goal.returns
returns c = blocks_partition

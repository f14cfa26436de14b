use Rattle.zpl_region.proofs.BlockLemmas.{grid_partitions}
use Rattle.zpl_region.proofs.laws.blocks_partition_members_by_dimension.Goals as goal

pub returns : goal.returns
returns c = grid_partitions

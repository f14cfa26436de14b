use Rattle.grid_layout.proofs.BlockLemmas.{block_below, one_block}
use Rattle.grid_layout.proofs.laws.each_coordinate_has_one_block.Goals as goal

pub returns : goal.returns
returns c = record { below = block_below; one = one_block }

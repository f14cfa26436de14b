use Rattle.grid_layout.proofs.SoundLemmas.{blocks_are}
use Rattle.grid_layout.proofs.laws.laid_out_blocks_are_blocks.Goals as goal

pub returns : goal.returns
returns c = blocks_are

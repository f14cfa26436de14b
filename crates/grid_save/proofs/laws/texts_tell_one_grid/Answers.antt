use Rattle.grid_save.proofs.GridLemmas.{one_grid}
use Rattle.grid_save.proofs.laws.texts_tell_one_grid.Goals as goal

pub returns : goal.returns
returns c = one_grid c.bytes_have_one_program.ensures.program c.what_is_written_is_read.ensures.typed

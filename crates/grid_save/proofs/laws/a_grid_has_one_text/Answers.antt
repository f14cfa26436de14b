use Rattle.std.proofs.Common.{◌∙◌, sym}
use Rattle.grid_save.proofs.laws.a_grid_has_one_text.Goals as goal

pub returns : goal.returns
returns c = λ one other code grid is also. is.written ∙ sym also.written

use Rattle.grid_layout.proofs.DimLemmas.{empty_told}
use Rattle.grid_layout.proofs.dims.is_empty.Goals as goal

pub returns : goal.returns
returns c = empty_told c.is_empty.result c.args.dim c.requires c.is_empty.ensures

use Rattle.std.proofs.Common.{refl}
use Rattle.fuse_contract.proofs.CellLemmas.{few_cells, size_with_cells}
use Rattle.fuse_contract.proofs.arrays_become_cells.Goals as goal

pub returns : goal.returns
returns c = record { cells = few_cells; size = size_with_cells; rest = λ code. refl }

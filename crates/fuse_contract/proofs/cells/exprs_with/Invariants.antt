use Rattle.std.proofs.Common.{◌≡◌, map, take}
use Rattle.fuse_contract.specs.Contracting.{word_contracted}
use Rattle.fuse_contract.specs.Naming.{cell_at}
use Rattle.fuse_contract.proofs.cells.exprs_with.Given as goal

abbrev pub invariant-loop-i : goal.invariant-loop-i
invariant-loop-i l = l.made ≡ map (map (word_contracted (cell_at l.cells))) (take l.i l.exprs)

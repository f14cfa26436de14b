use Rattle.std.proofs.Common.{◌≡◌, fold, length, replicate, take}
use Rattle.fuse_contract.specs.Naming.{row_noted}
use Rattle.fuse_contract.specs.declared.states.CellState.TheVariants as state
use Rattle.fuse_contract.proofs.states.rows_noted.Given as goal

abbrev pub invariant-loop-i : goal.invariant-loop-i
invariant-loop-i l =
    l.states.items
    ≡ fold row_noted (replicate (length l.tables.arrays) state.Unnamed) (take l.i l.tables.code)

use Rattle.std.proofs.Common.{◌≡◌, All}
use Rattle.grid_layout.specs.Own.{HasBlocks, first_own}
use Rattle.grid_layout.proofs.own.all_own.Given as goal

abbrev pub invariant-loop-p : goal.invariant-loop-p
invariant-loop-p l = (l.own.items ≡ first_own l.blocks l.p) × All HasBlocks l.own.items

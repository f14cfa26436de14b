use Rattle.std.proofs.Common.{◌≡◌, ◌++◌, drop}
use Rattle.grid_save.proofs.states.add_scalars.Given as goal

abbrev pub invariant-loop-i : goal.invariant-loop-i
invariant-loop-i l = l.values.items ++ drop l.i l.local.local.scalars ≡ l.local.local.scalars

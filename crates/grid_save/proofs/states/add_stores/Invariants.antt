use Rattle.std.proofs.Common.{map, take}
use Rattle.grid_save.specs.Writing.{Writes}
use Rattle.grid_save.specs.Written.{store_line}
use Rattle.grid_save.proofs.states.add_stores.Given as goal

abbrev pub invariant-loop-array : goal.invariant-loop-array
invariant-loop-array l = Writes l.initial.text.items (map store_line (take l.array l.local.local.stores)) l.text.items

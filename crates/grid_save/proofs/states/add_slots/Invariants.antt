use Rattle.std.proofs.Common.{map, take}
use Rattle.grid_save.specs.Writing.{Writes}
use Rattle.grid_save.specs.Written.{slot_line}
use Rattle.grid_save.proofs.states.add_slots.Given as goal

abbrev pub invariant-loop-i : goal.invariant-loop-i
invariant-loop-i l = Writes l.initial.text.items (map slot_line (take l.i l.slots)) l.text.items

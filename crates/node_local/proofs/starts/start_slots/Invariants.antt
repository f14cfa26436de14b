use Rattle.std.proofs.Common.{◌≡◌, map, take}
use Rattle.grid_meaning.specs.Stored.{no_places}
use Rattle.node_local.proofs.starts.start_slots.Given as goal

abbrev pub invariant-loop-i : goal.invariant-loop-i
invariant-loop-i l = l.slots.items ≡ map no_places (take l.i l.code.slots)

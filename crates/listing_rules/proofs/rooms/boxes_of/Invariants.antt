use Rattle.std.proofs.Common.{◌≡◌, ◌++◌, drop}
use Rattle.listing_rules.specs.Room.{boxes_of}
use Rattle.listing_rules.proofs.rooms.boxes_of.Given as goal

abbrev pub invariant-loop-i : goal.invariant-loop-i
invariant-loop-i l = l.boxes.items ++ boxes_of (drop l.i l.tables.arrays) ≡ boxes_of l.tables.arrays

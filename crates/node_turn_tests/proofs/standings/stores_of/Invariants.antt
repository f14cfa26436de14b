use Rattle.std.proofs.Common.{◌≡◌, map, take}
use Rattle.node_local.specs.Standing.{array_in}
use Rattle.node_turn_tests.proofs.standings.stores_of.Given as goal

abbrev pub invariant-loop-i : goal.invariant-loop-i
invariant-loop-i l = map array_in l.stores.items ≡ take l.i l.local.local.stores

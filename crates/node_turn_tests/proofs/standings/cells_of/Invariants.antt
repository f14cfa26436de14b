use Rattle.std.proofs.Common.{◌≡◌, take}
use Rattle.node_turn_tests.proofs.standings.cells_of.Given as goal

abbrev pub invariant-loop-i : goal.invariant-loop-i
invariant-loop-i l = l.words.items ≡ take l.i l.local.local.cells

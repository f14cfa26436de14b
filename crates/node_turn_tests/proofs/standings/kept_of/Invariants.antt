use Rattle.std.proofs.Common.{◌≡◌, map, take}
use Rattle.node_local.specs.Standing.{entry_of}
use Rattle.node_turn_tests.proofs.standings.kept_of.Given as goal

abbrev pub invariant-loop-entry : goal.invariant-loop-entry
invariant-loop-entry l = map entry_of l.kept.items ≡ map entry_of (take l.entry-index l.entry-items)

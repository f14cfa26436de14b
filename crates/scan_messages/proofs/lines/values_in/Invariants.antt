use Rattle.std.proofs.Common.{◌≡◌, map, take}
use Rattle.scan_messages.specs.Line.{value_in}
use Rattle.scan_messages.proofs.lines.values_in.Given as goal

abbrev pub invariant-loop-x : goal.invariant-loop-x
invariant-loop-x l = l.found.items ≡ map (value_in l.part l.values) (take l.x-index l.tuples)

use Rattle.std.proofs.Common.{◌≡◌, map}
use Rattle.lower_numbers.specs.Bodies.{body_in, sums_down}
use Rattle.lower_numbers.proofs.sums.sums_down.Given as goal

abbrev pub invariant-loop-procedure : goal.invariant-loop-procedure
invariant-loop-procedure l = l.counts.items ≡ sums_down (map body_in l.bodies) l._procedure

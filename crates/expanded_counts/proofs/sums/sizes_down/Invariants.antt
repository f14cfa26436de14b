use Rattle.std.proofs.Common.{◌≡◌, map}
use Rattle.expanded_counts.specs.Bodies.{body_in, sizes_down}
use Rattle.expanded_counts.proofs.sums.sizes_down.Given as goal

abbrev pub invariant-loop-procedure : goal.invariant-loop-procedure
invariant-loop-procedure l = l.sizes.items ≡ sizes_down (map body_in l.bodies) l._procedure

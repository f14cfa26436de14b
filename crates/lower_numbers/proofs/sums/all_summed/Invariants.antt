use Rattle.std.proofs.Common.{◌≡◌, ◌++◌, drop, map}
use Rattle.lower_numbers.specs.Bodies.{body_in, summed}
use Rattle.lower_numbers.proofs.sums.all_summed.Given as goal

-- the counts so far, and those of the rest
abbrev pub invariant-loop-body : goal.invariant-loop-body
invariant-loop-body l =
    l.counts.items ++ map (summed l.below) (map body_in (drop l.body-index l.bodies)) ≡
    map (summed l.below) (map body_in l.bodies)

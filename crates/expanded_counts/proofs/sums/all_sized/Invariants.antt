use Rattle.std.proofs.Common.{◌≡◌, ◌++◌, drop, map}
use Rattle.expanded_counts.specs.Bodies.{body_in, sized}
use Rattle.expanded_counts.proofs.sums.all_sized.Given as goal

-- the sizes so far, and those of the rest
abbrev pub invariant-loop-body : goal.invariant-loop-body
invariant-loop-body l =
    l.sizes.items ++ map (sized l.below) (map body_in (drop l.body-index l.bodies)) ≡
    map (sized l.below) (map body_in l.bodies)

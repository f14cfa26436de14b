use Rattle.region_places.specs.of_zpl_arrays.Array.{element}
use Rattle.region_places.specs.of_zpl_arrays.Fold.{partly_reduced}
use Rattle.reduce_plan.specs.Partial.{is_reached}
use Rattle.reduce_plan.proofs.WalkLemmas.{IsThrough, left}
use Rattle.reduce_plan.proofs.folds.partials.Given as goal

-- the folds at the indices gone through
abbrev pub invariant-loop-next : goal.invariant-loop-next
invariant-loop-next l =
    IsThrough l.within (is_reached l.target l.block) (partly_reduced l.fold l.target l.block (element (record { storage = l.block; values = l.values }))) l.next l.folds.items

abbrev pub decreases-loop-next : goal.decreases-loop-next
decreases-loop-next l = left l.within l.next

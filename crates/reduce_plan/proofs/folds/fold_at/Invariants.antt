use Rattle.std.proofs.Common.{◌≡◌, map, take}
use Rattle.region_places.specs.of_zpl_nums.Fold.{folded}
use Rattle.grid_layout.specs.of_zpl_region.Region.{members}
use Rattle.region_places.specs.of_zpl_arrays.Array.{element}
use Rattle.reduce_plan.proofs.folds.fold_at.Given as goal

-- the fold over the first tuples
abbrev pub invariant-loop-i : goal.invariant-loop-i
invariant-loop-i l = l.so_far ≡ folded l.fold (map (element (record { storage = l.block; values = l.values })) (take l.i (members l.tuples)))

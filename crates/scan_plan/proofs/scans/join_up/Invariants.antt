use Rattle.std.proofs.Common.{◌≡◌, ◌++◌, take, drop}
use Rattle.zpl_nums.specs.Fold.{unit_of}
use Rattle.scan_plan.specs.Scan.{sums}
use Rattle.scan_plan.proofs.scans.join_up.Given as goal

-- what is written and what is left to be joined make the whole of it
abbrev pub invariant-loop-value : goal.invariant-loop-value
invariant-loop-value l = take l.value-index l.values ++ sums l.fold l.so_far (drop l.value-index l.values) ≡ sums l.fold (unit_of l.fold) l.initial.values

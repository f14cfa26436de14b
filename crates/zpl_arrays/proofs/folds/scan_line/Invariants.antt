use Rattle.std.proofs.Common.{◌≡◌, ◌++◌, take, drop}
use Rattle.zpl_arrays.specs.Row.{running}
use Rattle.zpl_arrays.proofs.folds.scan_line.Given as goal

-- what is written and what is left of the scan make the whole of it
abbrev pub invariant-loop-i : goal.invariant-loop-i
invariant-loop-i l = take l.i l.into ++ running l.fold l.so_far (drop l.i l.values) ≡ running l.fold l.before l.values

use Rattle.std.proofs.Common.{◌≡◌, drop}
use Rattle.std.specs.List.{fold}
use Rattle.zpl_nums.specs.Fold.{folded, joined}
use Rattle.zpl_arrays.specs.Row.{kept_values}
use Rattle.zpl_arrays.proofs.folds.fold_of.Given as goal

-- what is left of the values makes the whole of it
abbrev pub invariant-loop-value : goal.invariant-loop-value
invariant-loop-value l = fold (joined l.fold) l.so_far (kept_values (drop l.value-index l.values)) ≡ folded l.fold (kept_values l.values)

use Rattle.std.proofs.Common.{◌≡◌, ◌+◌, drop, map}
use Rattle.std.specs.Prelude.{sum_by}
use Rattle.zpl_tree.specs.View.{var_of}
use Rattle.lower_numbers.specs.Arrays.{var_arrays}
use Rattle.lower_numbers.proofs.arrays.count_variables.Given as goal

-- the count so far, with the rest
abbrev pub invariant-loop-var : goal.invariant-loop-var
invariant-loop-var l =
    l.count + sum_by var_arrays (map var_of (drop l.var-index l.vars)) ≡
    l.initial.count + sum_by var_arrays (map var_of l.vars)

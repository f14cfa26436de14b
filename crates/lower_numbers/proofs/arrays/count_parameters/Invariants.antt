use Rattle.std.proofs.Common.{◌≡◌, ◌+◌, drop, map}
use Rattle.std.specs.Prelude.{sum_by}
use Rattle.zpl_tree.specs.View.{param_of}
use Rattle.lower_numbers.specs.Arrays.{param_arrays}
use Rattle.lower_numbers.proofs.arrays.count_parameters.Given as goal

-- the count so far, with the rest
abbrev pub invariant-loop-param : goal.invariant-loop-param
invariant-loop-param l =
    l.count + sum_by param_arrays (map param_of (drop l.param-index l.params)) ≡
    l.initial.count + sum_by param_arrays (map param_of l.params)

use Rattle.std.proofs.Common.{◌≡◌, vec_len}
use Rattle.reduce_plan_tests.proofs.tests.values_of.Given as goal

-- one value for each tuple gone through
abbrev pub invariant-loop-i : goal.invariant-loop-i
invariant-loop-i l = vec_len l.values ≡ l.i

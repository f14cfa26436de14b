use Rattle.std.proofs.Common.{◌≡◌, length}
use Rattle.scan_plan_tests.proofs.tests.compare.Given as goal

-- a list of each processor
abbrev pub invariant-loop-p : goal.invariant-loop-p
invariant-loop-p g l = length l.all ≡ l.count

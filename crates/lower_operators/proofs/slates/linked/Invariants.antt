use Rattle.std.proofs.Common.{◌≡◌, ◌≤◌, drop, length}
use Rattle.lower_operators.specs.View.{slates_in, slates_of}
use Rattle.lower_operators.proofs.slates.linked.Given as goal

abbrev pub decreases-loop-left : goal.decreases-loop-left
decreases-loop-left l = l.left

abbrev pub invariant-loop-left : goal.invariant-loop-left
invariant-loop-left l = record {
  within : l.left ≤ length l.slates;
  rest : slates_of l.all ≡ slates_in (drop l.left l.slates);
}

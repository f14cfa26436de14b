use Rattle.std.proofs.Common.{refl}
use Rattle.bound_check.proofs.SizeLemmas.{as_many_goals, no_larger}
use Rattle.bound_check.proofs.UndecidedLemmas.{undecided}
use Rattle.bound_check.proofs.checks_are_left_out.Goals as goal

pub returns : goal.returns
returns c = record {
  undecided = undecided;
  size = no_larger;
  jumps = as_many_goals;
  rest = λ code. refl;
}

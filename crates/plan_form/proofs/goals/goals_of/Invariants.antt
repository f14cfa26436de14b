use Rattle.std.proofs.Common.{length, take}
use Rattle.plan_form.proofs.GoalLemmas.{AreMarked}
use Rattle.plan_form.proofs.goals.goals_of.Given as goal

abbrev pub invariant-loop-i : goal.invariant-loop-i
invariant-loop-i l = AreMarked (take l.i l.code) (length l.code) l.goals.items

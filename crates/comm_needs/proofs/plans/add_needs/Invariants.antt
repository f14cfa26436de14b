use Rattle.comm_needs.proofs.PlanLemmas.{IsPlanned}
use Rattle.comm_needs.proofs.plans.add_needs.Given as goal

abbrev pub invariant-loop-i : goal.invariant-loop-i
invariant-loop-i l = IsPlanned l.tables l.draft l.i

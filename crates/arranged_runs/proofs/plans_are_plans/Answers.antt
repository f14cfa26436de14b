use Rattle.arranged_runs.proofs.PlanLemmas.{arranged_plan, code_plan, dropped_plan, early_plan}
use Rattle.arranged_runs.proofs.PlanLemmas.{merged_plan, planned_plan}
use Rattle.arranged_runs.proofs.plans_are_plans.Goals as goal

pub returns : goal.returns
returns c = record {
  planned = planned_plan;
  dropped = dropped_plan;
  merged = merged_plan;
  early = early_plan;
  arranged = arranged_plan;
  emitted = code_plan;
}

use Rattle.arranged_runs.proofs.ThreeLemmas.{dropped_three, early_three, merged_three, planned_three}
use Rattle.arranged_runs.proofs.plans_keep_threes.Goals as goal

pub returns : goal.returns
returns c = record {
  planned = λ grid code flat threes. planned_three code threes grid flat.rows;
  dropped = dropped_three;
  merged = merged_three;
  early = early_three;
}

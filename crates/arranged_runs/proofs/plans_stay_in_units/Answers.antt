use Rattle.arranged_runs.proofs.UnitLemmas.{dropped_in_units, merged_in_units, planned_in_units}
use Rattle.arranged_runs.proofs.plans_stay_in_units.Goals as goal

pub returns : goal.returns
returns c = record {
  planned = planned_in_units;
  dropped = dropped_in_units;
  merged = merged_in_units;
}

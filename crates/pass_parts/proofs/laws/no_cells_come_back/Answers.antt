use Rattle.pass_parts.proofs.LeftLemmas.{dropped_left, early_left, emitted_left, merged_left}
use Rattle.pass_parts.proofs.LeftLemmas.{planned_left}
use Rattle.pass_parts.proofs.laws.no_cells_come_back.Goals as goal

pub returns : goal.returns
returns c = record {
  planned = planned_left;
  dropped = dropped_left;
  merged = merged_left;
  early = early_left;
  emitted = emitted_left;
}

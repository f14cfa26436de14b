use Rattle.pass_parts.proofs.FusedCells.{contracted_fused}
use Rattle.pass_parts.proofs.FusedEarly.{still_fused}
use Rattle.pass_parts.proofs.FusedPasses.{dropped_fused, merged_fused, planned_fused}
use Rattle.pass_parts.proofs.laws.no_loops_come_back.Goals as goal

pub returns : goal.returns
returns c = record {
  contracted = contracted_fused;
  planned = planned_fused;
  dropped = dropped_fused;
  merged = merged_fused;
  early = λ links plan. still_fused plan links;
}

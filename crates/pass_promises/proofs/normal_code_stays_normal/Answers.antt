use Rattle.pass_promises.proofs.StayLemmas.{checked_normal, contracted_normal, fused_normal}
use Rattle.pass_promises.proofs.normal_code_stays_normal.Goals as goal

pub returns : goal.returns
returns c = record {
  checked = checked_normal;
  fused = fused_normal;
  contracted = contracted_normal;
}

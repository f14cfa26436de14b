use Rattle.pass_promises.proofs.StayLemmas.{checked_loops, contracted_loops, fused_loops}
use Rattle.pass_promises.proofs.StayLemmas.{normalised_loops}
use Rattle.pass_promises.proofs.groups_gain_no_loops.Goals as goal

pub returns : goal.returns
returns c = record {
  normalised = normalised_loops;
  checked = checked_loops;
  fused = fused_loops;
  contracted = contracted_loops;
}

use Rattle.contracted_runs.proofs.ThreeLemmas.{checked_three, contracted_three, fused_three}
use Rattle.contracted_runs.proofs.ThreeLemmas.{normalised_three}
use Rattle.contracted_runs.proofs.arrays_keep_three_dims.Goals as goal

pub returns : goal.returns
returns c = record {
  normalised = normalised_three;
  checked = checked_three;
  fused = fused_three;
  contracted = contracted_three;
}

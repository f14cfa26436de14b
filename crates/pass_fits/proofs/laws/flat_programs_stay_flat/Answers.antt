use Rattle.pass_fits.proofs.FlatLemmas.{checked_flat, contracted_flat, fused_flat, normalised_flat}
use Rattle.pass_fits.proofs.laws.flat_programs_stay_flat.Goals as goal

pub returns : goal.returns
returns c = record {
  normalised = normalised_flat;
  checked = checked_flat;
  fused = fused_flat;
  contracted = contracted_flat;
}

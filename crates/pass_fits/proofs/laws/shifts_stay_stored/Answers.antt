use Rattle.pass_fits.proofs.ShiftLemmas.{checked_stored, contracted_stored, fused_stored}
use Rattle.pass_fits.proofs.ShiftLemmas.{normalised_stored}
use Rattle.pass_fits.proofs.laws.shifts_stay_stored.Goals as goal

pub returns : goal.returns
returns c = record {
  normalised = normalised_stored;
  checked = checked_stored;
  fused = fused_stored;
  contracted = contracted_stored;
}

use Rattle.pass_fits.proofs.CombineLemmas.{dropped_fits, merged_fits}
use Rattle.pass_fits.proofs.EarlyLemmas.{early_fits, emitted_fits}
use Rattle.pass_fits.proofs.NeedLemmas.{planned_fits}
use Rattle.pass_fits.proofs.laws.plans_fit.Goals as goal

pub returns : goal.returns
returns c = record {
  planned = planned_fits;
  dropped = dropped_fits;
  merged = merged_fits;
  early = early_fits;
  emitted = emitted_fits;
}

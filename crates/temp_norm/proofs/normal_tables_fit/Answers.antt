use Rattle.temp_norm.proofs.FitLemmas.{normalised_fits}
use Rattle.temp_norm.proofs.normal_tables_fit.Goals as goal

pub returns : goal.returns
returns c = normalised_fits

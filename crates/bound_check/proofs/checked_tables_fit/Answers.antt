use Rattle.bound_check.proofs.FitLemmas.{checked_fits}
use Rattle.bound_check.proofs.checked_tables_fit.Goals as goal

pub returns : goal.returns
returns c = checked_fits

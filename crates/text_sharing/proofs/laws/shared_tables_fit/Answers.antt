use Rattle.text_sharing.proofs.FitLemmas.{shared-fits, shared-flat}
use Rattle.text_sharing.proofs.laws.shared_tables_fit.Goals as goal

pub returns : goal.returns
returns c = record { fits = shared-fits; flat = shared-flat }

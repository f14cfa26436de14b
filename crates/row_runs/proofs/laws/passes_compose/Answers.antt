use Rattle.row_runs.proofs.RowLemmas.{keeps_through}
use Rattle.row_runs.proofs.laws.passes_compose.Goals as goal

pub returns : goal.returns
returns c = keeps_through

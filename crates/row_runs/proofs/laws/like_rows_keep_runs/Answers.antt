use Rattle.row_runs.proofs.RowLemmas.{rows_keep_runs}
use Rattle.row_runs.proofs.laws.like_rows_keep_runs.Goals as goal

pub returns : goal.returns
returns g c = λ act act'. rows_keep_runs act act' (g.L.Likeness.IsLike)

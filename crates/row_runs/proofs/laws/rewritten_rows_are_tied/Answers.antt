use Rattle.row_runs.proofs.StraightLemmas.{rewritten_ties}
use Rattle.row_runs.proofs.laws.rewritten_rows_are_tied.Goals as goal

pub returns : goal.returns
returns g c =
    λ act act' rewrite learn. rewritten_ties act act' rewrite learn (g.K.Knowledge.IsLike)
    (g.K.Knowledge.Knows)

use Rattle.row_runs.proofs.SegmentLemmas.{keeps_runs}
use Rattle.row_runs.proofs.laws.like_segments_keep_runs.Goals as goal

pub returns : goal.returns
returns g c = λ act act'. keeps_runs act act' (g.L.Likeness.IsLike)

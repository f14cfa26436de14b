use Rattle.row_runs.proofs.CutLemmas.{passes_keep_runs, goals_are_starts}
use Rattle.row_runs.proofs.laws.passes_keep_runs.Goals as goal

pub returns : goal.returns
returns g c =
    record {
      runs = λ act act'. passes_keep_runs act act'
          (g.L.Likeness.IsLike);
      goals = goals_are_starts _ _;
    }

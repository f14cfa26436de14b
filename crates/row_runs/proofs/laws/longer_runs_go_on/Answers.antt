use Rattle.row_runs.proofs.RunLemmas.{grow, grow_alone}
use Rattle.row_runs.proofs.StopLemmas.{stop_for_good, want_else}
use Rattle.row_runs.proofs.laws.longer_runs_go_on.Goals as goal

pub returns : goal.returns
returns g c =
    record {
      jumps = λ act. grow_alone act;
      rows = λ act act' further. grow act act' further;
      for_good = λ act. stop_for_good act;
      wants = λ act. want_else act;
    }

use Rattle.row_runs.proofs.CodeLemmas.{follow, follow_whole}
use Rattle.row_runs.proofs.laws.laid_out_code_does_the_same.Goals as goal

pub returns : goal.returns
returns g c =
    record {
      anywhere = λ step decide. follow step decide;
      whole = λ step decide. follow_whole step
          decide;
    }

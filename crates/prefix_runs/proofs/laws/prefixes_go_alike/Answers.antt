use Rattle.prefix_runs.proofs.UnderLemmas.{under_goes}
use Rattle.prefix_runs.proofs.laws.prefixes_go_alike.Goals as goal

pub returns : goal.returns
returns g c = λ world borders prefixes run made spare goes.
    under_goes world borders prefixes g.S.Standing.IsServed run made spare goes

use Rattle.call_runs.proofs.EndLemmas.{body_returns}
use Rattle.call_runs.proofs.laws.bodies_return_alike.Goals as goal

pub returns : goal.returns
returns g c = λ world returned goes body.
    body_returns world g.V.Values.IsValue returned g.S.Serving.IsServed goes body

use Rattle.call_runs.proofs.InvokeLemmas.{invoke_goes}
use Rattle.call_runs.proofs.laws.calls_go_alike.Goals as goal

pub returns : goal.returns
returns g c = λ world calls valued at name actuals.
    invoke_goes g.C.Calling.IsCalled g.V.Values.IsValue world calls valued at name actuals

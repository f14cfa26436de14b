use Rattle.call_runs.proofs.LeafLemmas.{call_leaves}
use Rattle.call_runs.proofs.laws.call_leaves_go_alike.Goals as goal

pub returns : goal.returns
returns g c = λ world calls answers valued at form.
    call_leaves g.C.Calling.IsCalled g.A.Calling.IsCalled g.V.Values.IsValue world calls answers
    valued at form

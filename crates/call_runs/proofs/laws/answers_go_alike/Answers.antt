use Rattle.call_runs.proofs.AnswerLemmas.{answer_goes}
use Rattle.call_runs.proofs.laws.answers_go_alike.Goals as goal

pub returns : goal.returns
returns g c = λ world calls valued at offset name callee actuals.
    answer_goes g.C.Calling.IsCalled g.V.Values.IsValue world calls valued at offset name callee
    actuals

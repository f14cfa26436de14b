use Rattle.prefix_runs.proofs.PlainLemmas.{plain_agrees}
use Rattle.prefix_runs.proofs.laws.statements_with_arrays_go_alike.Goals as goal

pub returns : goal.returns
returns g c = λ world setup calls stmt.
    plain_agrees world setup g.C.Callables.IsCallable calls stmt

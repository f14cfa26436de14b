use Rattle.operator_runs.proofs.LeafLemmas.{statements_agree}
use Rattle.operator_runs.proofs.laws.statements_by_operators_go_alike.Goals as goal

pub returns : goal.returns
returns g c = λ world setup calls stmt.
    statements_agree world setup g.C.Callables.IsCallable calls stmt

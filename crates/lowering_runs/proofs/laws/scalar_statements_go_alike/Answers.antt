use Rattle.lowering_runs.proofs.StatementLemmas.{stmt_agrees}
use Rattle.lowering_runs.proofs.laws.scalar_statements_go_alike.Goals as goal

pub returns : goal.returns
returns g c = λ world setup calls proper. stmt_agrees world setup g.C.Callables.IsCallable calls proper

use Rattle.prefix_runs.proofs.PlainLemmas.{suited_agrees_by}
use Rattle.prefix_runs.proofs.laws.statements_go_alike.Goals as goal

pub returns : goal.returns
returns g c = λ world tests bounds leaves stmt.
    suited_agrees_by world g.T.Tests.IsTest g.B.Bounds.IsBound g.L.Leaves.IsLeaf tests bounds leaves
    stmt

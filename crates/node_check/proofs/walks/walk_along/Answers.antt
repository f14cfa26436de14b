use Rattle.std.proofs.Common.{◌∙◌, ap}
use Rattle.node_check.specs.Walk.{Walk, walked}
use Rattle.node_check.proofs.walks.walk_along.Goals as goal

pub returns-clause-fronts : goal.returns-clause-fronts
returns-clause-fronts c =
    ap (λ (walk : Walk). walk.fronts)
    (c.walk.view_is ∙ (c.in_ok-go.ensures
    ∙ ap (walked c.args.tables.now 0 c.args.tables.now.code) c.new-walk.ensures))

pub returns-clause-reached : goal.returns-clause-reached
returns-clause-reached c =
    ap (λ (walk : Walk). walk.reached)
    (c.walk.view_is ∙ (c.in_ok-go.ensures
    ∙ ap (walked c.args.tables.now 0 c.args.tables.now.code) c.new-walk.ensures))

pub returns-clause-lost : goal.returns-clause-lost
returns-clause-lost c =
    ap (λ (walk : Walk). walk.lost)
    (c.walk.view_is ∙ (c.in_ok-go.ensures
    ∙ ap (walked c.args.tables.now 0 c.args.tables.now.code) c.new-walk.ensures))

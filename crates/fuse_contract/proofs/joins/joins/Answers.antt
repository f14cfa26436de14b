use Rattle.std.proofs.Common.{◌∙◌, sym, true≢false}
use Rattle.fuse_contract.proofs.StepLemmas.{joins_are}
use Rattle.fuse_contract.proofs.joins.joins.Goals as goal

pub returns-then-can_take : goal.returns-then-can_take
returns-then-can_take c =
    λ facts group behind used.
    joins_are c.args.tables.now facts.known c.in-Some.last c.args.slot c.args.uses.now group used
    c.can_take.result c.all_lie_within.result c.can_take.ensures
    (λ near. c.all_lie_within.ensures facts.known behind.known)
    (λ apart. absurd (true≢false (sym c.if-can_take.true ∙ apart)))
    facts.last c.args.walk.now.last c.in-Some.is behind.last

pub returns-else-can_take : goal.returns-else-can_take
returns-else-can_take c =
    λ facts group behind used.
    joins_are c.args.tables.now facts.known c.in-Some.last c.args.slot c.args.uses.now group used
    c.can_take.result c.can_take.result c.can_take.ensures
    (λ near. absurd (true≢false (sym near ∙ c.if-can_take.false)))
    (λ apart. apart)
    facts.last c.args.walk.now.last c.in-Some.is behind.last

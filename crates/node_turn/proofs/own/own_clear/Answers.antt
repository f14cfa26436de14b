use Rattle.std.proofs.Common.{ap, ◌∙◌}
use Rattle.node_loop.specs.LocalTurn.{turned}
use Rattle.node_turn.proofs.OwnLemmas.{clear_defined}
use Rattle.node_turn.proofs.own.own_clear.Goals as goal

pub returns-in-Undefined : goal.returns-in-Undefined
returns-in-Undefined c =
    absurd (clear_defined c.args.code.now c.args.p c.args.array c.args.local.now c.requires
    (c.clear.ensures.turn ∙ ap (λ t. turned t c.clear.new.local.local) c.in-Undefined.is))

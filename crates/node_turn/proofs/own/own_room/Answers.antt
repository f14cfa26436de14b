use Rattle.std.proofs.Common.{ap, ◌∙◌}
use Rattle.node_loop.specs.LocalTurn.{turned}
use Rattle.node_turn.proofs.OwnLemmas.{room_defined}
use Rattle.node_turn.proofs.own.own_room.Goals as goal

pub returns-in-Undefined-clause-own : goal.returns-in-Undefined-clause-own
returns-in-Undefined-clause-own c =
    absurd (room_defined c.args.code.now c.args.p c.args.array c.args.slot c.args.local.now c.requires.at
    (c.in_ok-turn.ensures.turn ∙ ap (λ t. turned t c.room.new.local.local) c.in-Undefined.is))

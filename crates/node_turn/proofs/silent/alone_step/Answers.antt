use Rattle.node_turn.proofs.ActLemmas.{next_three, own_alone}
use Rattle.node_turn.proofs.silent.alone_step.Goals as goal

pub returns-clause-turn : goal.returns-clause-turn
returns-clause-turn c = λ links.
    c.told.ensures c.args.code.now c.args.p c.args.local.now c.alone_turn.new.local links c.tables-fits.ensures.fits
    (next_three c.args.code.now c.args.p c.args.local.now c.args.row.now c.requires.at c.see_three.ensures) c.requires.at.ready
    (own_alone c.args.code.now c.args.p c.args.local.now c.args.row.now c.requires.at c.requires.together c.alone_turn.new.local c.in_ok-turn.turn
    c.requires.stage c.in_ok-turn.ensures.own)

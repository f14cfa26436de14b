use Rattle.std.proofs.Common.{sym, subst}
use Rattle.grid_meaning.specs.Action.{Action}
use Rattle.row_turn.specs.Own.{IsOwn}
use Rattle.node_turn.proofs.ActLemmas.{acts_at, next_three}
use Rattle.node_turn.proofs.silent.own_step.Goals as goal

pub returns-clause-turn : goal.returns-clause-turn
returns-clause-turn c = λ links.
    c.told.ensures c.args.code.now c.args.p c.args.local.now c.own_turn.new.local links c.tables-fits.ensures.fits
    (next_three c.args.code.now c.args.p c.args.local.now c.args.row.now c.requires.at c.see_three.ensures) c.requires.at.ready
    (subst (λ (a : Action). IsOwn c.args.p a c.args.local.now c.own_turn.new.local c.in_ok-turn.turn)
    (sym (acts_at c.args.code.now c.args.p c.args.local.now c.args.row.now c.requires.at)) c.in_ok-turn.ensures.own)

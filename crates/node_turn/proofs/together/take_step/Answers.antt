use Rattle.std.proofs.Common.{rules, ◌≡◌, ap, ◌∙◌}
use Rattle.std.specs.Prelude.{Some, slice_get}
use Rattle.grid_links.specs.Machine.{Awaits, Takes}
use Rattle.grid_links.specs.Network.{link}
use Rattle.grid_meaning.specs.Collective.{TakesFrom}
use Rattle.grid_meaning.specs.Turn.{act, fed}
use Rattle.row_turn.specs.Own.{fed_of}
use Rattle.node_turn.proofs.ActLemmas.{acts_in, feeds_of}
use Rattle.node_turn.proofs.TurnLemmas.{took_from}
use Rattle.node_turn.proofs.together.take_step.Goals as goal

pub returns-in-Accepted-clause-turn : goal.returns-in-Accepted-clause-turn
returns-in-Accepted-clause-turn c =
    let here : slice_get (link c.args.links.now c.args.from c.args.p) 0 ≡ Some c.in-Some.message.now = search rules in
    let does : act c.args.code.now c.args.p c.args.local.now.local ≡ Awaits c.args.from =
    acts_in c.args.code.now c.args.p c.args.local.now c.args.row.now c.requires.at c.requires.together (TakesFrom c.args.from) c.requires.stage in
    let takes : fed c.args.code.now c.args.p c.args.local.now.local c.in-Some.message.now ≡ Takes c.take_message.new.local.local =
    feeds_of c.args.code.now c.args.p c.args.local.now c.args.row.now c.requires.at c.requires.together c.args.from c.in-Some.message.now
    (fed_of c.in_ok-take_message.field-0 c.take_message.new.local.local) c.requires.stage c.in_ok-take_message.ensures.fed
    ∙ ap (λ receipt. fed_of receipt c.take_message.new.local.local) c.in-Accepted.is in
    took_from c.args.code.now c.args.p c.args.local.now c.take_message.new.local c.args.links.now c.take-message.new.self c.args.from
    c.in-Some.message.now c.requires.sender does here takes c.in_ok-take_message.ensures.state c.take-message.ensures.taken c.requires.at.ready
    (c.states_are_kept.ensures.messages c.args.code.now c.args.p c.args.local.now.local c.take_message.new.local.local c.args.from
    c.in-Some.message.now c.tables-fits.ensures.fits c.requires.at.ready.state does takes)

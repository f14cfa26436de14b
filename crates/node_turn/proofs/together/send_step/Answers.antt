use Rattle.std.proofs.Common.{◌≡◌, ◌+◌, [], length, true, false, refl, sym, ap, ◌∙◌}
use Rattle.std.specs.Prelude.{Some}
use Rattle.grid_links.specs.Links.{has_room}
use Rattle.grid_links.specs.Machine.{Goes}
use Rattle.grid_links.specs.Network.{link}
use Rattle.grid_meaning.specs.Action.{Action}
use Rattle.grid_meaning.specs.Turn.{act}
use Rattle.node_turn.proofs.ActLemmas.{lacks_message, next_three, sends_message}
use Rattle.node_turn.proofs.TurnLemmas.{on_ok, sent_on, stuck_before, waits_for_room}
use Rattle.node_turn.proofs.together.send_step.Goals as goal

pub returns-in_default-clause-turn : goal.returns-in_default-clause-turn
returns-in_default-clause-turn c =
    stuck_before c.args.code.now c.args.p c.args.local.now c.args.local.now c.args.links.now c.args.links.now
    (lacks_message c.args.code.now c.args.p c.args.local.now c.args.row.now c.requires.at c.requires.together c.args.to c.in_ok-message.field-0
    c.requires.stage c.in_ok-message.ensures c.in_default.is) refl refl

pub returns-then-not-has_room-clause-turn : goal.returns-then-not-has_room-clause-turn
returns-then-not-has_room-clause-turn c =
    let full : has_room c.args.links.now.capacity (link c.args.links.now c.args.p c.args.to) ≡ false =
    sym c.has_room.ensures ∙ c.if-not-has_room.true in
    waits_for_room c.args.code.now c.args.p c.args.local.now c.args.local.now c.args.links.now c.args.links.now c.args.to c.in-Some.message
    (record c.args.local.now.local { made = c.args.local.now.local.made + 1 }) c.requires.links c.requires.receiver
    (sends_message c.args.code.now c.args.p c.args.local.now c.args.row.now c.requires.at c.requires.together c.args.to c.in-Some.message
    c.in_ok-message.field-0 c.requires.stage c.in_ok-message.ensures c.in-Some.is) full refl refl

pub returns-clause-turn : goal.returns-clause-turn
returns-clause-turn c =
    let room : has_room c.args.links.now.capacity (link c.args.links.now c.args.p c.args.to) ≡ true =
    sym c.has_room.ensures ∙ c.if-not-has_room.false in
    let next = record c.args.local.now.local { made = c.args.local.now.local.made + 1 } in
    let does : act c.args.code.now c.args.p c.args.local.now.local ≡ Goes next (Some (c.args.to, c.in-Some.message)) [] =
    sends_message c.args.code.now c.args.p c.args.local.now c.args.row.now c.requires.at c.requires.together c.args.to c.in-Some.message
    c.in_ok-message.field-0 c.requires.stage c.in_ok-message.ensures c.in-Some.is in
    sent_on c.args.code.now c.args.p c.args.local.now c.count_turn.new.self c.args.links.now c.send.new.self c.args.to _ c.in-Some.message
    c.requires.links c.requires.receiver does room (ap length (sym c.as_slice.ensures)) c.count_turn.ensures
    (on_ok c.send.result _ (sym c.is_err.ensures.value ∙ c.if-is_err.false) c.send.ensures.sent) c.requires.at.ready
    (c.states_are_kept.ensures.moves c.args.code.now c.args.p c.args.local.now.local next (Some (c.args.to, c.in-Some.message)) []
    c.tables-fits.ensures.fits
    (next_three c.args.code.now c.args.p c.args.local.now c.args.row.now c.requires.at c.see_three.ensures) c.requires.at.ready.state does)

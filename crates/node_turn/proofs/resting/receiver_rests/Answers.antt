use Rattle.std.proofs.Common.{rules, ◌≡◌, sym}
use Rattle.std.specs.Prelude.{None, Some, slice_get}
use Rattle.grid_links.specs.Network.{link}
use Rattle.node_turn.proofs.QuietLemmas.{moves_with, rests_without}
use Rattle.node_turn.proofs.resting.receiver_rests.Goals as goal

pub returns-in-Some : goal.returns-in-Some
returns-in-Some c =
    let here : slice_get (link c.args.links.now c.args.from c.args.p) 0 ≡ Some c.in-Some._message.now = search rules in
    sym (moves_with c.args.code.now c.args.p c.args.local.now c.args.row.now c.requires.at c.args.links.now c.requires.together c.args.from c.in-Some._message.now c.requires.stage here)

pub returns-in-None : goal.returns-in-None
returns-in-None c =
    let none : slice_get (link c.args.links.now c.args.from c.args.p) 0 ≡ None = search rules in
    sym (rests_without c.args.code.now c.args.p c.args.local.now c.args.row.now c.requires.at c.args.links.now c.requires.together c.args.from c.requires.stage none)

use Rattle.std.proofs.Common.{◌≡◌, true, false, sym, ◌∙◌}
use Rattle.grid_links.specs.Links.{has_room}
use Rattle.grid_links.specs.Network.{link}
use Rattle.node_turn.proofs.QuietLemmas.{moves_out, rests_full}
use Rattle.node_turn.proofs.resting.sender_rests.Goals as goal

pub returns-then-has_room : goal.returns-then-has_room
returns-then-has_room c =
    sym (moves_out c.args.code.now c.args.p c.args.local.now c.args.row.now c.requires.at c.args.links.now c.requires.together c.args.to c.requires.links c.requires.receiver c.requires.stage (sym c.has_room.ensures ∙ c.if-has_room.true))

pub returns : goal.returns
returns c =
    sym (rests_full c.args.code.now c.args.p c.args.local.now c.args.row.now c.requires.at c.args.links.now c.requires.together c.args.to false c.has_words.result c.requires.links c.requires.receiver c.requires.stage
    (sym c.has_room.ensures ∙ c.if-has_room.false) c.has_words.ensures)

use Rattle.std.proofs.Common.{◌≡◌, ◌<◌, length, slice_get, sym, subst}
use Rattle.std.specs.Prelude.{Some}
use Rattle.node_stages.proofs.RouteLemmas.{recalled_list}
use Rattle.node_stages.specs.Partners.{senders_to, taking}
use Rattle.node_stages.specs.Stage.{staged}
use Rattle.node_stages.proofs.exchanges.finish_stage.Goals as goal

pub awaiting_stage-requires-in-Some-finished : goal.awaiting_stage-requires-in-Some-finished
awaiting_stage-requires-in-Some-finished c =
    subst (λ list. c.args.made < length (taking list))
    (sym (recalled_list c.args.code.now (λ slots items. senders_to c.args.code.now slots items c.args.p) c.args.known.now.finished c.args.exchange
    c.args.slots.now c.args.items.now c.in-Some-finished.senders c.requires.there c.requires.routes.finished c.in-Some-finished.ensures))
    c.requires.made

pub returns-in-Some-finished : goal.returns-in-Some-finished
returns-in-Some-finished c =
    subst (λ list. slice_get (taking list) c.args.made ≡ Some (staged c.awaiting_stage-in-Some-finished.result))
    (recalled_list c.args.code.now (λ slots items. senders_to c.args.code.now slots items c.args.p) c.args.known.now.finished c.args.exchange
    c.args.slots.now c.args.items.now c.in-Some-finished.senders c.requires.there c.requires.routes.finished c.in-Some-finished.ensures)
    c.awaiting_stage-in-Some-finished.ensures

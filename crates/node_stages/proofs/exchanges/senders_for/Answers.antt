use Rattle.node_stages.proofs.RouteLemmas.{on_some, finished_kept, finished_route}
use Rattle.node_stages.specs.Known.{IsRoute, IsRouteFor}
use Rattle.node_stages.specs.Partners.{senders_to}
use Rattle.node_stages.proofs.exchanges.senders_for.Goals as goal

pub returns-clause-routes : goal.returns-clause-routes
returns-clause-routes c =
    finished_kept c.args.code.now c.args.p c.args.known.now c.keep_finished.new.self c.of.result c.keep_finished.ensures c.requires.routes
    (on_some (IsRouteFor c.args.exchange c.args.slots.now c.args.items.now c.find_senders-found.result)
    (IsRoute c.args.code.now (λ slots items. senders_to c.args.code.now slots items c.args.p)) c.of.result
    (λ route for. finished_route c.args.code.now c.args.p c.args.exchange c.args.slots.now c.args.items.now c.find_senders-found.result route c.requires.there
    c.find_senders-found.ensures for) c.of.ensures)

use Rattle.node_stages.proofs.RouteLemmas.{on_some, started_kept, started_route}
use Rattle.node_stages.specs.Known.{IsRoute, IsRouteFor}
use Rattle.node_stages.specs.Partners.{receivers_from}
use Rattle.node_stages.proofs.exchanges.receivers_for.Goals as goal

pub returns-clause-routes : goal.returns-clause-routes
returns-clause-routes c =
    started_kept c.args.code.now c.args.p c.args.known.now c.keep_started.new.self c.of.result c.keep_started.ensures c.requires.routes
    (on_some (IsRouteFor c.args.exchange c.args.slots.now c.args.items.now c.find_receivers-found.result)
    (IsRoute c.args.code.now (λ slots items. receivers_from c.args.code.now slots items c.args.p)) c.of.result
    (λ route for. started_route c.args.code.now c.args.p c.args.exchange c.args.slots.now c.args.items.now c.find_receivers-found.result route c.requires.there
    c.find_receivers-found.ensures for) c.of.ensures)

use Rattle.node_local.specs.Standing.{array_in}
use Rattle.node_turn_tests.proofs.StandingLemmas.{one_more_of}
use Rattle.node_turn_tests.proofs.standings.stores_of.Goals as goal

pub loop-i-preserved : goal.loop-i-preserved
loop-i-preserved c =
    one_more_of array_in c.args.local.now.local.stores c.loop-i.stores.items c.push.new.self.items c.loop-i.i c.in_ok-store.store
    c.loop-i.invariant c.in_ok-store.ensures c.in_ok-push.ensures.items

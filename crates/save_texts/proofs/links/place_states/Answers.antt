use Rattle.std.specs.Vec.Iter.{into_iter_items}
use Rattle.save_texts.proofs.LinkSteps.{place_next}
use Rattle.save_texts.proofs.links.place_states.Goals as goal

pub loop-state-preserved : goal.loop-state-preserved
loop-state-preserved c =
    place_next c.loop-state.from c.args.count c.in-Some.state (into_iter_items c.loop-state.state-iterator) (into_iter_items c.next.new.self) c.args.states.items
    c.loop-state.locals c.push.new.self c.loop-state.links c.send_all.new.links c.in-Some.ensures.steps.0 c.in_ok-push.ensures.pushed c.in_ok-send_all.ensures c.loop-state.invariant

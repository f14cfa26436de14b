use Rattle.std.specs.Vec.Iter.{into_iter_items}
use Rattle.save_texts.proofs.LinkSteps.{drained, send_first, send_next, send_over}
use Rattle.save_texts.proofs.links.send_all.Goals as goal

pub loop-sent-init : goal.loop-sent-init
loop-sent-init c =
    send_first c.args.from c.args.sents.items (into_iter_items c.into_iter-sent-iterator.result) c.args.links.now c.into_iter-sent-iterator.ensures.into_iter_gives.0
    c.requires.unbounded c.requires.receivers

pub loop-sent-preserved : goal.loop-sent-preserved
loop-sent-preserved c =
    send_next c.args.from _ c.in-Some.sent (into_iter_items c.loop-sent.sent-iterator) (into_iter_items c.next.new.self) c.loop-sent.links c.send_one.new.links _
    c.in-Some.ensures.steps.0 c.in_ok-send_one.ensures c.loop-sent.invariant

pub returns : goal.returns
returns c =
    send_over c.args.from _ (into_iter_items c.loop-sent.sent-iterator) c.loop-sent.links _
    (drained c.loop-sent.sent-iterator c.in-None.ensures.steps.0) c.loop-sent.invariant

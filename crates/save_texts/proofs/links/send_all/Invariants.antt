use Rattle.std.proofs.Common.{map}
use Rattle.std.specs.Vec.Iter.{into_iter_items}
use Rattle.save_reading.specs.Sent.{sent_pair}
use Rattle.save_texts.specs.Links.{sending_all}
use Rattle.save_texts.proofs.LinkSteps.{SendsOn}
use Rattle.save_texts.proofs.links.send_all.Given as goal

abbrev pub invariant-loop-sent : goal.invariant-loop-sent
invariant-loop-sent l =
    SendsOn l.fn.from l.initial.links.count (into_iter_items l.sent-iterator) l.links
    (sending_all l.fn.from (map sent_pair l.fn.sents.items) l.initial.links)

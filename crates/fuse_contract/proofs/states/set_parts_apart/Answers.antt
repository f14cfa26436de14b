use Rattle.std.proofs.Common.{◌<◌, arith, length}
use Rattle.std.proofs.lemmas.List.{take_more}
use Rattle.fuse_contract.proofs.StateLemmas.{parts_more}
use Rattle.fuse_contract.proofs.states.set_parts_apart.Goals as goal

pub loop-part-preserved : goal.loop-part-preserved
loop-part-preserved c =
    let less : c.loop-part.part-index < length c.args.parts.now = omega arith in
    parts_more c.args.parts.now c.loop-part.part-index _ c.args.states.now.items
    c.loop-part.states.items c.set_each_apart.new.states.items
    (take_more c.args.parts.now c.loop-part.part-index _ less) c.loop-part.invariant
    c.set_each_apart.ensures

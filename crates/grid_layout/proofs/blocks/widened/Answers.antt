use Rattle.std.proofs.Common.{arith}
use Rattle.zpl_region.proofs.HullCode.{none_told, some_told}
use Rattle.grid_layout.proofs.HullLemmas.{empty_one, this_one}
use Rattle.grid_layout.proofs.blocks.widened.Goals as goal

pub returns-then-is_empty-clause-widened : goal.returns-then-is_empty-clause-widened
returns-then-is_empty-clause-widened c =
    empty_one c.args.rank c.args.place c.args.hull c.args.array.now c.if-array-rank.false
    (none_told c.is_empty.result c.args.array.now.shape c.requires.array.region c.is_empty.ensures c.if-is_empty.true)

pub returns-clause-widened : goal.returns-clause-widened
returns-clause-widened c =
    this_one c.args.rank c.args.place c.args.hull c.around.result c.args.array.now _ c.if-array-rank.false
    (some_told c.is_empty.result c.args.array.now.shape c.requires.array.region c.is_empty.ensures c.if-is_empty.false) (omega arith) c.around.ensures.around

use Rattle.std.proofs.Common.{sym, subst}
use Rattle.zpl_region.specs.Hull.{IsBoxed}
use Rattle.save_reading.proofs.BoxLemmas.{boxed_side, boxed_three}
use Rattle.save_reading.proofs.boxes.box_with.Goals as goal

pub returns-clause-boxed : goal.returns-clause-boxed
returns-clause-boxed c =
    let sides = c.args.sides.now in
    boxed_three c.side_at.result c.side_at-2.result c.side_at-3.result (subst IsBoxed (sym c.side_at.ensures) (boxed_side sides 0))
    (subst IsBoxed (sym c.side_at-2.ensures) (boxed_side sides 1)) (subst IsBoxed (sym c.side_at-3.ensures) (boxed_side sides 2))

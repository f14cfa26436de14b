use Rattle.std.proofs.Common.{◌∙◌, arith}
use Rattle.std.proofs.lemmas.Int.{ints, clamps}
use Rattle.zpl_region.proofs.HullCode.{wide_told}
use Rattle.zpl_region.proofs.dims.Dim.hull_with.Goals as goal

pub returns-in-Range-Range : goal.returns-in-Range-Range
returns-in-Range-Range c =
    let a = c.in-Range-Range in
    c.all_from.ensures
    ∙ wide_told c.args.self c.args.other a.lo-0 a.hi-0 a.step-0 a.align-0 a.lo-1 a.hi-1 a.step-1 a.align-1 _ _ a.is-0 a.is-1
    (omega (arith, ints, clamps, c.min.ensures.value, c.ends-first.ensures.first, c.ends-from.ensures.first))
    (omega (arith, ints, clamps, c.max.ensures.value, c.ends-first.ensures.last, c.ends-from.ensures.last))

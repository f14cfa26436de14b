use Rattle.std.proofs.Common.{w64}
use Rattle.std.proofs.lemmas.Int.{to_z-of_z}
use Rattle.zpl_region.proofs.dims.Dim.is_within.Goals as goal

pub returns-in-Range : goal.returns-in-Range
returns-in-Range c =
    let r = c.in-Range in
    let lo = rw (to_z-of_z w64 c.args.lo c.ranges.lo) at c.is_within.ensures in
    let both = rw (to_z-of_z w64 c.args.hi c.ranges.hi) at lo in
    let terms = rw (c.progression.ensures.terms) at both in
    rw r.is (rw r.is at terms)

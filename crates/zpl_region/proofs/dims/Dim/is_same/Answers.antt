use Rattle.zpl_region.specs.declared.dims.Dim.TheVariants.{Range}
use Rattle.zpl_region.specs.Dim.{IsDim}
use Rattle.zpl_region.proofs.DimLemmas.{same_ranges_iff}
use Rattle.zpl_region.proofs.dims.Dim.is_same.Goals as goal

pub returns-in-Range-Range : goal.returns-in-Range-Range
returns-in-Range-Range c =
    let r = c.in-Range-Range in
    let p = c.progression in
    let q = c.progression-in-Range-Range in
    let mine : IsDim (Range r.lo-0 r.hi-0 r.step-0 r.align-0) = rw r.is-0 at c.requires.mine in
    let theirs : IsDim (Range r.lo-1 r.hi-1 r.step-1 r.align-1) = rw r.is-1 at c.requires.theirs in
    rw (r.is-0, r.is-1) (same_ranges_iff p.result q.result c.eq.result r.lo-0 r.hi-0 r.step-0 r.align-0 r.lo-1 r.hi-1 r.step-1 r.align-1 mine.0 theirs.0 p.ensures.normal q.ensures.normal (rw r.is-0 at p.ensures.terms) (rw r.is-1 at q.ensures.terms) c.eq.ensures)

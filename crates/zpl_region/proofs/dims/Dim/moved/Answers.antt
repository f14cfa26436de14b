use Rattle.std.proofs.Common.{◌+ℤ◌, refl, arith}
use Rattle.std.proofs.lemmas.Int.{ints}
use Rattle.zpl_region.specs.declared.dims.Dim.TheVariants.{Range}
use Rattle.zpl_region.specs.Dim.{IsDim, dim_moved}
use Rattle.zpl_region.proofs.FormLemmas.{near_range, step_same, near_bound, near_saturated}
use Rattle.zpl_region.proofs.dims.Dim.moved.Goals as goal

pub returns-clause-near : goal.returns-clause-near
returns-clause-near c =
    let r = c.in-Range in
    let d = c.args.d in
    let asked : IsDim (Range r.lo r.hi r.step r.align) = rw r.is at c.requires in
    rw r.is (near_range _ _ _ _ (r.lo +ℤ d) (r.hi +ℤ d) r.step (r.align +ℤ d) (dim_moved d (Range r.lo r.hi r.step r.align))
    refl
    (near_bound _ _ _ c.saturating_add-lo.result c.saturating_add-lo.ensures (omega (arith, ints)) (omega (arith, ints)))
    (near_bound _ _ _ c.saturating_add-hi.result c.saturating_add-hi.ensures (omega (arith, ints)) (omega (arith, ints)))
    (step_same _ _ (omega (arith, ints)))
    (near_saturated _ _ _ c.saturating_add-align.result c.saturating_add-align.ensures (omega (arith, ints)) (omega (arith, ints))))

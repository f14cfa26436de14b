use Rattle.std.proofs.Common.{pos, ◌+ℤ◌, ◌-ℤ◌, arith}
use Rattle.std.proofs.lemmas.Int.{ints}
use Rattle.zpl_region.specs.declared.dims.Dim.TheVariants.{Range}
use Rattle.zpl_region.specs.Dim.{IsDim, dim_outside_of}
use Rattle.zpl_region.proofs.FormLemmas.{near_range, near_same, step_same, near_bound, outside_above, outside_below}
use Rattle.zpl_region.proofs.dims.Dim.outside_of.Goals as goal

pub returns-then-d-gt0-clause-near : goal.returns-then-d-gt0-clause-near
returns-then-d-gt0-clause-near c =
    let r = c.in-Range in
    let d = c.args.d in
    let asked : IsDim (Range r.lo r.hi r.step r.align) = rw r.is at c.requires in
    rw r.is (near_range _ _ _ _ (r.hi +ℤ pos 1) (r.hi +ℤ d) r.step r.align (dim_outside_of d (Range r.lo r.hi r.step r.align))
    (outside_above d r.lo r.hi r.step r.align (omega (arith, ints)))
    (near_same 31 _ _ (omega (arith, ints)))
    (near_bound _ _ _ c.saturating_add.result c.saturating_add.ensures (omega (arith, ints)) (omega (arith, ints)))
    (step_same _ _ (omega (arith, ints)))
    (near_same 40 _ _ (omega (arith, ints))))

pub returns-then-d-lt0-clause-near : goal.returns-then-d-lt0-clause-near
returns-then-d-lt0-clause-near c =
    let r = c.in-Range in
    let d = c.args.d in
    let asked : IsDim (Range r.lo r.hi r.step r.align) = rw r.is at c.requires in
    let low = c.saturating_add-then-d-lt0 in
    rw r.is (near_range _ _ _ _ (r.lo +ℤ d) (r.lo -ℤ pos 1) r.step r.align (dim_outside_of d (Range r.lo r.hi r.step r.align))
    (outside_below d r.lo r.hi r.step r.align (omega (arith, ints)))
    (near_bound _ _ _ low.result low.ensures (omega (arith, ints)) (omega (arith, ints)))
    (near_same 31 _ _ (omega (arith, ints)))
    (step_same _ _ (omega (arith, ints)))
    (near_same 40 _ _ (omega (arith, ints))))

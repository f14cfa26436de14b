use Rattle.std.proofs.Common.{pos, ◌+ℤ◌, ◌-ℤ◌, arith}
use Rattle.std.proofs.lemmas.Int.{ints}
use Rattle.zpl_region.specs.declared.dims.Dim.TheVariants.{Range}
use Rattle.zpl_region.specs.Dim.{IsDim, dim_inside_of}
use Rattle.zpl_region.proofs.FormLemmas.{near_range, near_same, step_same, near_bound, inside_above, inside_below}
use Rattle.zpl_region.proofs.dims.Dim.inside_of.Goals as goal

pub returns-then-d-gt0-clause-near : goal.returns-then-d-gt0-clause-near
returns-then-d-gt0-clause-near c =
    let r = c.in-Range in
    let d = c.args.d in
    let asked : IsDim (Range r.lo r.hi r.step r.align) = rw r.is at c.requires in
    rw r.is (near_range _ _ _ _ ((r.hi -ℤ d) +ℤ pos 1) r.hi r.step r.align (dim_inside_of d (Range r.lo r.hi r.step r.align))
    (inside_above d r.lo r.hi r.step r.align (omega (arith, ints)))
    (near_bound _ _ _ c.saturating_sub.result c.saturating_sub.ensures (omega (arith, ints)) (omega (arith, ints)))
    (near_same 31 _ _ (omega (arith, ints)))
    (step_same _ _ (omega (arith, ints)))
    (near_same 40 _ _ (omega (arith, ints))))

pub returns-then-d-lt0-clause-near : goal.returns-then-d-lt0-clause-near
returns-then-d-lt0-clause-near c =
    let r = c.in-Range in
    let d = c.args.d in
    let asked : IsDim (Range r.lo r.hi r.step r.align) = rw r.is at c.requires in
    let high = c.saturating_sub-then-d-lt0 in
    rw r.is (near_range _ _ _ _ r.lo ((r.lo -ℤ d) -ℤ pos 1) r.step r.align (dim_inside_of d (Range r.lo r.hi r.step r.align))
    (inside_below d r.lo r.hi r.step r.align (omega (arith, ints)))
    (near_same 31 _ _ (omega (arith, ints)))
    (near_bound _ _ _ high.result high.ensures (omega (arith, ints)) (omega (arith, ints)))
    (step_same _ _ (omega (arith, ints)))
    (near_same 40 _ _ (omega (arith, ints))))

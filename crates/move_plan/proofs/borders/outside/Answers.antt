use Rattle.std.proofs.Common.{arith}
use Rattle.std.proofs.lemmas.Int.{ints}
use Rattle.zpl_arrays.specs.of_zpl_region.declared.dims.Dim.TheVariants.{Range}
use Rattle.zpl_arrays.specs.of_zpl_region.Dim.{IsDim}
use Rattle.move_plan.proofs.CodeLemmas.{outside_above, outside_below}
use Rattle.move_plan.proofs.borders.outside.Goals as goal

pub returns-then-d-gt0 : goal.returns-then-d-gt0
returns-then-d-gt0 c =
    let r = c.in-Range in
    let is : IsDim (Range r.lo r.hi r.step r.align) = rw r.is at c.requires.dim in
    outside_above c.args.dim c.args.d r.lo r.hi r.step r.align _ _ _ _ r.is (omega (arith, ints)) (omega (arith, ints)) (omega (arith, ints)) (omega (arith, ints)) (omega (arith, ints))

pub returns-then-d-lt0 : goal.returns-then-d-lt0
returns-then-d-lt0 c =
    let r = c.in-Range in
    let is : IsDim (Range r.lo r.hi r.step r.align) = rw r.is at c.requires.dim in
    outside_below c.args.dim c.args.d r.lo r.hi r.step r.align _ _ _ _ r.is (omega (arith, ints)) (omega (arith, ints)) (omega (arith, ints)) (omega (arith, ints)) (omega (arith, ints))

use Rattle.std.proofs.Common.{arith}
use Rattle.std.proofs.lemmas.Int.{ints}
use Rattle.zpl_region.specs.declared.dims.Dim.TheVariants.{Range}
use Rattle.zpl_region.specs.Dim.{IsDim, HasBounds, dim_moved}
use Rattle.zpl_region.proofs.DimLemmas.{same_range}
use Rattle.zpl_region.proofs.dims.Dim.shifted.Goals as goal

pub returns-in-Range : goal.returns-in-Range
returns-in-Range c =
    let r = c.in-Range in
    let asked : IsDim (Range r.lo r.hi r.step r.align) = rw c.in-Range.is at c.requires.dim in
    let bounds : HasBounds (dim_moved c.args.d (Range r.lo r.hi r.step r.align)) = rw c.in-Range.is at c.requires.bounds in
    rw c.in-Range.is (same_range (omega (arith, ints)) (omega (arith, ints)) (omega (arith, ints)) (omega (arith, ints)))

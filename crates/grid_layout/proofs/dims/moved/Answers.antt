use Rattle.std.proofs.Common.{arith}
use Rattle.std.proofs.lemmas.Int.{ints}
use Rattle.zpl_region.specs.declared.dims.Dim.TheVariants.{Range}
use Rattle.zpl_region.specs.Dim.{IsDim}
use Rattle.zpl_region.proofs.DimLemmas.{same_range}
use Rattle.grid_layout.proofs.dims.moved.Goals as goal

pub returns : goal.returns
returns c =
    let r = c.in-Range in
    let asked : IsDim (Range r.lo r.hi r.step r.align) = rw c.in-Range.is at c.requires.dim in
    rw c.in-Range.is (same_range (omega (arith, ints)) (omega (arith, ints)) (omega (arith, ints)) (omega (arith, ints)))

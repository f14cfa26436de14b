use Rattle.std.proofs.Common.{arith}
use Rattle.std.proofs.lemmas.Int.{ints}
use Rattle.zpl_region.specs.declared.dims.Dim.TheVariants.{Range}
use Rattle.zpl_region.specs.Hull.{IsBoxed}
use Rattle.grid_layout.proofs.DimLemmas.{extent_none, extent_some, size_of}
use Rattle.grid_layout.proofs.dims.size.Goals as goal

pub returns-then-hi-lo-clause-size : goal.returns-then-hi-lo-clause-size
returns-then-hi-lo-clause-size c =
    let r = c.in-Range in
    let boxed : IsBoxed (Range r.lo r.hi r.step r.align) = rw c.in-Range.is at c.requires.boxed in
    size_of 0 c.args.dim r.lo r.hi r.step r.align r.is boxed (extent_none r.lo r.hi (omega (arith, ints)))

pub returns-clause-size : goal.returns-clause-size
returns-clause-size c =
    let r = c.in-Range in
    let boxed : IsBoxed (Range r.lo r.hi r.step r.align) = rw c.in-Range.is at c.requires.boxed in
    size_of _ c.args.dim r.lo r.hi r.step r.align r.is boxed (extent_some r.lo r.hi c.abs_diff.result (omega (arith, ints)) (omega (arith, ints)))

use Rattle.std.proofs.Common.{arith, Some}
use Rattle.std.proofs.lemmas.Int.{clamps, ints}
use Rattle.zpl_region.specs.declared.dims.Dim.TheVariants.{Range}
use Rattle.zpl_region.specs.Dim.{HasBounds}
use Rattle.grid_layout.specs.Layout.{IsHull}
use Rattle.grid_layout.proofs.blocks.around.Goals as goal

pub returns-in-Some-clause-sound : goal.returns-in-Some-clause-sound
returns-in-Some-clause-sound c =
    let r = c.in-Range in
    let bounds : HasBounds (Range r.lo r.hi r.step r.align) = rw r.is at c.requires.dim in
    let hull : IsHull (Some (c.in-Some.low, c.in-Some.high)) = rw c.in-Some.is at c.requires.hull in
    ((omega (arith, ints, clamps), omega (arith, ints, clamps)), (omega (arith, ints, clamps), omega (arith, ints, clamps)))

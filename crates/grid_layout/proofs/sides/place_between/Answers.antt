use Rattle.std.proofs.Common.{arith}
use Rattle.std.proofs.lemmas.Int.{clamps, ints}
use Rattle.zpl_region.specs.declared.dims.Dim.TheVariants.{Range}
use Rattle.zpl_region.specs.Dim.{HasBounds}
use Rattle.grid_layout.proofs.PlaceLemmas.{place_none, place_some}
use Rattle.grid_layout.proofs.sides.place_between.Goals as goal

pub returns-then-to : goal.returns-then-to
returns-then-to c =
    let r = c.in-Range in
    place_none c.all_from.result c.args.from.now c.args.to.now c.args.low c.args.high c.args.d r.lo r.hi r.step r.align c.args.stored.now c.args.dim.now
    r.is c.if-to.true c.all_from.ensures

pub returns : goal.returns
returns c =
    let r = c.in-Range in
    let held : HasBounds (Range r.lo r.hi r.step r.align) = rw r.is at c.requires.stored in
    place_some c.place_within.result c.args.from.now c.args.to.now c.args.low c.args.high c.args.d r.lo r.hi r.step r.align _ _ _ c.args.stored.now c.args.dim.now
    r.is c.if-to.false (omega (arith, ints, clamps)) (omega (arith, ints, clamps)) (omega (arith, ints)) c.place_within.ensures

pub place_within-requires-clause-low : goal.place_within-requires-clause-low
place_within-requires-clause-low c =
    let r = c.in-Range in
    let held : HasBounds (Range r.lo r.hi r.step r.align) = rw r.is at c.requires.stored in
    omega (arith, ints, clamps)

pub place_within-requires-clause-high : goal.place_within-requires-clause-high
place_within-requires-clause-high c =
    let r = c.in-Range in
    let held : HasBounds (Range r.lo r.hi r.step r.align) = rw r.is at c.requires.stored in
    omega (arith, ints, clamps)

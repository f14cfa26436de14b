use Rattle.std.proofs.Common.{arith, sym, subst}
use Rattle.std.proofs.lemmas.Int.{clamps, ints}
use Rattle.zpl_region.specs.declared.dims.Dim.TheVariants.{Range}
use Rattle.zpl_region.specs.Dim.{HasBounds}
use Rattle.grid_layout.specs.Layout.{HasWideBounds}
use Rattle.grid_layout.proofs.SideLemmas.{side_held_told}
use Rattle.grid_layout.proofs.sides.Side.held.Goals as goal

pub overflow_add-last : goal.overflow_add-last
overflow_add-last c = omega (arith, ints)

pub returns-clause-held : goal.returns-clause-held
returns-clause-held c =
    let r = c.in-Range in
    let bounds : HasBounds (Range r.lo r.hi r.step r.align) = rw r.is at c.requires.dim in
    side_held_told c.args.self c.args.low c.args.high c.args.dim r.lo r.hi r.step r.align _ _ _ r.is c.if-self.false (omega (arith, ints, clamps)) (omega (arith, ints, clamps)) c.all_from-2.ensures

pub returns-clause-bounds : goal.returns-clause-bounds
returns-clause-bounds c =
    let r = c.in-Range in
    let bounds : HasBounds (Range r.lo r.hi r.step r.align) = rw r.is at c.requires.dim in
    subst HasWideBounds (sym c.all_from-2.ensures) ((omega (arith, ints, clamps), omega (arith, ints, clamps)), (omega (arith, ints, clamps), omega (arith, ints, clamps)))

use Rattle.std.proofs.Common.{◌≡◌, to_z, of_z, w64, pos, ◌≤ℤ◌, ◌∙◌, ap, sym, arith}
use Rattle.std.specs.Prelude.{unsigned_abs}
use Rattle.std.proofs.lemmas.Int.{clamps, ints}
use Rattle.zpl_region.specs.declared.dims.Dim.TheVariants.{Range}
use Rattle.zpl_region.specs.Dim.{IsDim, extent}
use Rattle.zpl_region.specs.Progression.{progression}
use Rattle.zpl_region.proofs.DimLemmas.{pos-extent, pos-unsigned_abs}
use Rattle.node_loop.proofs.IndexLemmas.{coordinates_follow}
use Rattle.node_loop.proofs.indices.numbers_of.Goals as goal

pub returns-else-step-ne1-clause-short : goal.returns-else-step-ne1-clause-short
returns-else-step-ne1-clause-short c =
    let r = c.in-Range in
    let is : IsDim (Range r.lo r.hi r.step r.align) = rw r.is at c.requires in
    let low = is.1.0 in
    let high = is.1.1 in
    let v = c.max.ensures.value in
    let some : pos 0 ≤ℤ to_z w64 (of_z w64 c.max.result) = omega (arith, ints, clamps, v, low, high) in
    let count = pos-unsigned_abs (to_z w64 (of_z w64 c.max.result)) some in
    ((omega (arith, ints, low), omega (arith, ints, low)), omega (arith, ints, clamps, count, v, low, high))

pub returns-else-step-ne1-clause-numbers : goal.returns-else-step-ne1-clause-numbers
returns-else-step-ne1-clause-numbers c =
    let r = c.in-Range in
    let is : IsDim (Range r.lo r.hi r.step r.align) = rw r.is at c.requires in
    let low = is.1.0 in
    let high = is.1.1 in
    let v = c.max.ensures.value in
    let some : pos 0 ≤ℤ to_z w64 (of_z w64 c.max.result) = omega (arith, ints, clamps, v, low, high) in
    let count = pos-unsigned_abs (to_z w64 (of_z w64 c.max.result)) some in
    let wide = pos-extent r.lo r.hi in
    let first : to_z w64 (of_z w64 r.lo) ≡ r.lo = omega (arith, ints, low) in
    let many : unsigned_abs (to_z w64 (of_z w64 c.max.result)) ≡ extent r.lo r.hi = omega (arith, ints, clamps, count, wide, v, low, high) in
    let one : r.step ≡ pos 1 = let h = c.if-step-ne1.false in omega (arith, ints, h) in
    ap (λ z. progression z 1 (unsigned_abs (to_z w64 (of_z w64 c.max.result)))) first
    ∙ (ap (progression r.lo 1) many ∙ coordinates_follow c.args.dim r.lo r.hi r.step r.align r.is one)

use Rattle.std.proofs.Common.{rules, sym, subst, ◌≡◌, pos, ◌≤ℤ◌, arith, w64, to_z, of_z}
use Rattle.std.specs.Prelude.{IsTrue}
use Rattle.std.proofs.lemmas.Int.{ints}
use Rattle.zpl_region.specs.Dim.{IsDim, IsUpTo}
use Rattle.node_turn_tests.proofs.standings.is_dim.Goals as goal

pub returns : goal.returns
returns c = λ high.
    let step : c.in-Range.step ≡ pos 1 = search rules in
    let align : c.in-Range.align ≡ c.in-Range.lo = search rules in
    let low : IsTrue c.is_near.result = search rules in
    let lo : to_z w64 (of_z w64 c.in-Range.lo) ≡ c.in-Range.lo = search rules in
    let hi : to_z w64 (of_z w64 c.in-Range.hi) ≡ c.in-Range.hi = search rules in
    let one : pos 1 ≤ℤ c.in-Range.step = omega (arith, ints, step) in
    let near : IsUpTo 40 c.in-Range.lo = subst (IsUpTo 40) lo (c.is_near.ensures.near low) in
    let far : IsUpTo 40 c.in-Range.hi = subst (IsUpTo 40) hi (c.is_near-2.ensures.near high) in
    let nearer : IsUpTo 42 c.in-Range.lo = subst (IsUpTo 42) lo (c.is_near.ensures.nearer low) in
    subst IsDim (sym c.in-Range.is) (one, (near, far), subst (IsUpTo 42) (sym align) nearer)

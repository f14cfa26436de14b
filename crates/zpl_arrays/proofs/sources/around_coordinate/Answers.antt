use Rattle.std.proofs.Common.{◌≡◌, ◌<◌, w64, to_z, of_z, ◌≤ℤ◌, ◌+ℤ◌, ◌-ℤ◌, pos, arith}
use Rattle.std.proofs.lemmas.Int.{ints}
use Rattle.zpl_region.specs.declared.dims.Dim.TheVariants.{Range}
use Rattle.zpl_region.specs.Dim.{IsDim, extent}
use Rattle.zpl_region.specs.Ends.{coordinate_count}
use Rattle.zpl_arrays.proofs.SourceLemmas.{around_is, home_is_wide, near_fits, remainder_between}
use Rattle.zpl_arrays.proofs.sources.around_coordinate.Goals as goal
use Rattle.zpl_arrays.proofs.sources.around_coordinate.Goals.{In-Range}

asked : (c : In-Range) → IsDim (Range c.in-Range.lo c.in-Range.hi c.in-Range.step c.in-Range.align)
asked c = rw c.in-Range.is at c.requires.dim

wide : (c : In-Range) → (c.in-Range.lo ≤ℤ c.in-Range.hi) × (pos (extent c.in-Range.lo c.in-Range.hi) ≡ (c.in-Range.hi -ℤ c.in-Range.lo) +ℤ pos 1)
wide c =
    let some : 0 < coordinate_count (Range c.in-Range.lo c.in-Range.hi c.in-Range.step c.in-Range.align) = rw c.in-Range.is at c.requires.some in
    home_is_wide c.in-Range.lo c.in-Range.hi c.in-Range.step c.in-Range.align (asked c).0 some

sum_is : (c : In-Range) → to_z w64 (of_z w64 (to_z w64 (of_z w64 c.args.x) +ℤ to_z w64 (of_z w64 c.args.d))) ≡ c.args.x +ℤ c.args.d
sum_is c = omega (arith, ints)

lo_is : (c : In-Range) → to_z w64 (of_z w64 c.in-Range.lo) ≡ c.in-Range.lo
lo_is c = let a = asked c in omega (arith, ints)

gap_is : (c : In-Range) → to_z w64 (of_z w64 (to_z w64 (of_z w64 c.in-Range.hi) -ℤ to_z w64 (of_z w64 c.in-Range.lo))) ≡ c.in-Range.hi -ℤ c.in-Range.lo
gap_is c = let a = asked c in omega (arith, ints)

extent_is : (c : In-Range) → to_z w64 (of_z w64 (to_z w64 (of_z w64 (to_z w64 (of_z w64 c.in-Range.hi) -ℤ to_z w64 (of_z w64 c.in-Range.lo))) +ℤ pos 1)) ≡ pos (extent c.in-Range.lo c.in-Range.hi)
extent_is c = let a = asked c in let g = gap_is c in let e = wide c in omega (arith, ints)

pub overflow_sub-x : goal.overflow_sub-x
overflow_sub-x c = let w = (goal.at.overflow_sub-x c).In-Range in let a = asked w in let s = sum_is w in let low = lo_is w in near_fits _ (omega (arith, ints)) (omega (arith, ints))

pub overflow_add-hi : goal.overflow_add-hi
overflow_add-hi c = let w = (goal.at.overflow_add-hi c).In-Range in let a = asked w in let g = gap_is w in near_fits _ (omega (arith, ints)) (omega (arith, ints))

pub remainder-requires : goal.remainder-requires
remainder-requires c = let w = (goal.at.remainder-requires c).In-Range in let e = wide w in let x = extent_is w in omega (arith, ints)

some : (c : In-Range) → 0 < extent c.in-Range.lo c.in-Range.hi
some c = let e = wide c in omega (arith, ints)

pub overflow_add-result : goal.overflow_add-result
overflow_add-result c =
    let r = c.in-Range in
    let w = (goal.at.overflow_add-result c).In-Range in
    let a = asked w in
    let e = wide w in
    let rest = remainder_between _ _ c.remainder.result (extent r.lo r.hi) (some w) (extent_is w) c.remainder.ensures in
    let first = lo_is w in
    near_fits _ (omega (arith, ints, rest)) (omega (arith, ints, rest))

pub returns-in-Range : goal.returns-in-Range
returns-in-Range c =
    let w = (goal.at.returns-in-Range c).In-Range in
    let r = c.in-Range in
    let a = asked w in
    let e = wide w in
    let s = sum_is w in
    let first = lo_is w in
    let rest = remainder_between _ _ c.remainder.result (extent r.lo r.hi) (some w) (extent_is w) c.remainder.ensures in
    rw c.in-Range.is (around_is r.lo r.hi r.step r.align c.args.d c.args.x _ _ c.remainder.result _ (omega (arith, ints, rest)) c.remainder.ensures (omega (arith, ints)) (extent_is w))

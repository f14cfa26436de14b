use Rattle.std.proofs.Common.{◌≡◌, w64, to_z, of_z, ◌+ℤ◌, ◌-ℤ◌, ◌*ℤ◌, pos, arith}
use Rattle.std.proofs.lemmas.Int.{ints, clamps}
use Rattle.zpl_region.specs.declared.dims.Dim.TheVariants.{Range}
use Rattle.zpl_region.specs.Dim.{IsDim}
use Rattle.zpl_region.proofs.DimLemmas.{pos-extent}
use Rattle.zpl_arrays.proofs.SourceLemmas.{mirrored_above, mirrored_below, near_fits, wrapped_above, wrapped_below}
use Rattle.zpl_arrays.proofs.sources.border_coordinate.Goals as goal
use Rattle.zpl_arrays.proofs.sources.border_coordinate.Goals.{In-Range}

asked : (c : In-Range) → IsDim (Range c.in-Range.lo c.in-Range.hi c.in-Range.step c.in-Range.align)
asked c = rw c.in-Range.is at c.requires.dim

x_is : (c : In-Range) → to_z w64 (of_z w64 c.args.x) ≡ c.args.x
x_is c = omega (arith, ints)

gap_is : (c : In-Range) → to_z w64 (of_z w64 (to_z w64 (of_z w64 c.in-Range.hi) -ℤ to_z w64 (of_z w64 c.in-Range.lo))) ≡ c.in-Range.hi -ℤ c.in-Range.lo
gap_is c = let a = asked c in omega (arith, ints)

wide_is : (c : In-Range) → to_z w64 (of_z w64 (to_z w64 (of_z w64 (to_z w64 (of_z w64 c.in-Range.hi) -ℤ to_z w64 (of_z w64 c.in-Range.lo))) +ℤ pos 1)) ≡ (c.in-Range.hi -ℤ c.in-Range.lo) +ℤ pos 1
wide_is c = let a = asked c in let g = gap_is c in omega (arith, ints)

twice_hi : (c : In-Range) → to_z w64 (of_z w64 (pos 2 *ℤ to_z w64 (of_z w64 c.in-Range.hi))) ≡ pos 2 *ℤ c.in-Range.hi
twice_hi c = let a = asked c in omega (arith, ints)

above_hi : (c : In-Range) → to_z w64 (of_z w64 (to_z w64 (of_z w64 (pos 2 *ℤ to_z w64 (of_z w64 c.in-Range.hi))) +ℤ pos 1)) ≡ (pos 2 *ℤ c.in-Range.hi) +ℤ pos 1
above_hi c = let a = asked c in let t = twice_hi c in omega (arith, ints)

twice_lo : (c : In-Range) → to_z w64 (of_z w64 (pos 2 *ℤ to_z w64 (of_z w64 c.in-Range.lo))) ≡ pos 2 *ℤ c.in-Range.lo
twice_lo c = let a = asked c in omega (arith, ints)

below_lo : (c : In-Range) → to_z w64 (of_z w64 (to_z w64 (of_z w64 (pos 2 *ℤ to_z w64 (of_z w64 c.in-Range.lo))) -ℤ pos 1)) ≡ (pos 2 *ℤ c.in-Range.lo) -ℤ pos 1
below_lo c = let a = asked c in let t = twice_lo c in omega (arith, ints)

pub overflow_add-hi : goal.overflow_add-hi
overflow_add-hi c = let w = (goal.at.overflow_add-hi c).In-Range in let a = asked w in let g = gap_is w in near_fits _ (omega (arith, ints)) (omega (arith, ints))

pub overflow_add-hi-in-Wrap-kind : goal.overflow_add-hi-in-Wrap-kind
overflow_add-hi-in-Wrap-kind c = let w = (goal.at.overflow_add-hi-in-Wrap-kind c).In-Range in let a = asked w in let g = gap_is w in near_fits _ (omega (arith, ints)) (omega (arith, ints))

pub overflow_sub-result : goal.overflow_sub-result
overflow_sub-result c =
    let w = (goal.at.overflow_sub-result c).In-Range in
    let a = asked w in
    let x = x_is w in
    let g = wide_is w in
    let most = c.max.ensures.value in
    near_fits _ (omega (arith, ints, clamps)) (omega (arith, ints, clamps))

pub overflow_add-result-in-Wrap-kind : goal.overflow_add-result-in-Wrap-kind
overflow_add-result-in-Wrap-kind c =
    let w = (goal.at.overflow_add-result-in-Wrap-kind c).In-Range in
    let a = asked w in
    let x = x_is w in
    let g = wide_is w in
    let most = c.max-in-Wrap-kind.ensures.value in
    near_fits _ (omega (arith, ints, clamps)) (omega (arith, ints, clamps))

pub overflow_sub-result-in-Reflect : goal.overflow_sub-result-in-Reflect
overflow_sub-result-in-Reflect c =
    let w = (goal.at.overflow_sub-result-in-Reflect c).In-Range in
    let a = asked w in
    let x = x_is w in
    let b = above_hi w in
    near_fits _ (omega (arith, ints)) (omega (arith, ints))

pub overflow_sub-result-in-Reflect-kind-2 : goal.overflow_sub-result-in-Reflect-kind-2
overflow_sub-result-in-Reflect-kind-2 c =
    let w = (goal.at.overflow_sub-result-in-Reflect-kind-2 c).In-Range in
    let a = asked w in
    let x = x_is w in
    let b = below_lo w in
    near_fits _ (omega (arith, ints)) (omega (arith, ints))

pub returns-in-Wrap : goal.returns-in-Wrap
returns-in-Wrap c =
    let r = c.in-Range in
    let w = (goal.at.returns-in-Wrap c).In-Range in
    let a = asked w in
    let x = x_is w in
    let g = wide_is w in
    let most = c.max.ensures.value in
    let e = pos-extent r.lo r.hi in
    rw (c.in-Range.is, c.in-Wrap.is) (wrapped_above r.lo r.hi r.step r.align c.args.d c.args.x _ (omega (arith, ints, c.if-d-gt0.true)) (omega (arith, ints, clamps)))

pub returns-in-Wrap-kind : goal.returns-in-Wrap-kind
returns-in-Wrap-kind c =
    let r = c.in-Range in
    let w = (goal.at.returns-in-Wrap-kind c).In-Range in
    let a = asked w in
    let x = x_is w in
    let g = wide_is w in
    let most = c.max-in-Wrap-kind.ensures.value in
    let e = pos-extent r.lo r.hi in
    rw (c.in-Range.is, c.in-Wrap-kind.is) (wrapped_below r.lo r.hi r.step r.align c.args.d c.args.x _ (omega (arith, ints, c.if-d-lt0.true)) (omega (arith, ints, clamps)))

pub returns-in-Reflect : goal.returns-in-Reflect
returns-in-Reflect c =
    let r = c.in-Range in
    let w = (goal.at.returns-in-Reflect c).In-Range in
    let a = asked w in
    let x = x_is w in
    let b = above_hi w in
    rw (c.in-Range.is, c.in-Reflect.is) (mirrored_above r.lo r.hi r.step r.align c.args.d c.args.x _ (omega (arith, ints, c.if-d-gt0.true)) (omega (arith, ints)))

pub returns-in-Reflect-kind : goal.returns-in-Reflect-kind
returns-in-Reflect-kind c =
    let r = c.in-Range in
    let w = (goal.at.returns-in-Reflect-kind c).In-Range in
    let a = asked w in
    let x = x_is w in
    let b = below_lo w in
    rw (c.in-Range.is, c.in-Reflect-kind.is) (mirrored_below r.lo r.hi r.step r.align c.args.d c.args.x _ (omega (arith, ints, c.if-d-lt0.true)) (omega (arith, ints)))

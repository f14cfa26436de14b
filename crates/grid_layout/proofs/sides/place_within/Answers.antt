use Rattle.std.proofs.Common.{◌≡◌, ◌+ℤ◌, arith, rules, subst, w64, to_z, of_z}
use Rattle.std.specs.Int.{int_max, int_min}
use Rattle.std.proofs.lemmas.Int.{ints, to_z-of_z}
use Rattle.zpl_region.specs.declared.dims.Dim.TheVariants.{Range, Flood}
use Rattle.zpl_region.specs.Dim.{IsDim, IsUpTo}
use Rattle.grid_layout.proofs.PlaceLemmas.{align_told, max_near, max_of_three, max_with_none, min_near, min_of_three, min_with_none, sum_fits, shift_above, shift_below, shift_near, within_far, within_flood, within_near}
use Rattle.grid_layout.proofs.sides.place_within.Goals as goal
use Rattle.grid_layout.proofs.sides.place_within.Goals.{then-d-via-then-d, then-d-via-else-d+then-d-gt-FARTHEST_SHIFT}

pub returns-in_default : goal.returns-in_default
returns-in_default c =
    let flood : c.args.dim.now ≡ Flood = search rules in
    within_flood c.range_or_nothing.result c.args.from.now c.args.to.now c.args.lo c.args.hi c.args.d (to_z w64 (of_z w64 c.max-in_default.result)) (to_z w64 (of_z w64 c.min-in_default.result)) c.args.dim.now flood
    (max_with_none c.max.result c.max-in_default.result c.args.lo c.args.from.now.first c.max.ensures.value c.max-in_default.ensures.value (to_z-of_z w64 c.args.lo c.ranges.lo) c.requires.mine.0)
    (min_with_none c.min.result c.min-in_default.result c.args.hi c.args.from.now.last c.min.ensures.value c.min-in_default.ensures.value (to_z-of_z w64 c.args.hi c.ranges.hi) c.requires.mine.1)
    c.range_or_nothing.ensures

pub returns-then-d : goal.returns-then-d
returns-then-d c =
    let w = c.in-Range in
    let d_is : to_z w64 (of_z w64 c.args.d) ≡ c.args.d = to_z-of_z w64 c.args.d c.ranges.d in
    within_far c.all_from.result c.args.from.now c.args.to.now c.args.lo c.args.hi c.args.d w.begin w.end w.step w.align c.args.dim.now
    w.is c.requires.low c.requires.high c.requires.dim
    (elim c.then-d.branch [ then-d-via-then-d b ↦ shift_below c.args.d (rw d_is at b.if-d.true) | then-d-via-else-d+then-d-gt-FARTHEST_SHIFT b ↦ shift_above c.args.d (rw d_is at b.if-d-gt-FARTHEST_SHIFT.true) ])
    c.all_from.ensures

pub overflow_add-first : goal.overflow_add-first
overflow_add-first c =
    let w = c.in-Range in
    let d_is : to_z w64 (of_z w64 c.args.d) ≡ c.args.d = to_z-of_z w64 c.args.d c.ranges.d in
    let asked : IsDim (Range w.begin w.end w.step w.align) = subst IsDim w.is c.requires.dim in
    let near = max_near c.max-2.result w.begin c.args.to.now.first c.max-2.ensures.value asked.1.0 c.requires.other.0 in
    sum_fits c.max-2.result c.args.d near.1 (shift_near c.args.d (rw d_is at c.if-d.false) (rw d_is at c.if-d-gt-FARTHEST_SHIFT.false))

pub overflow_add-last : goal.overflow_add-last
overflow_add-last c =
    let w = c.in-Range in
    let d_is : to_z w64 (of_z w64 c.args.d) ≡ c.args.d = to_z-of_z w64 c.args.d c.ranges.d in
    let asked : IsDim (Range w.begin w.end w.step w.align) = subst IsDim w.is c.requires.dim in
    let near = min_near c.min-2.result w.end c.args.to.now.last c.min-2.ensures.value asked.1.1 c.requires.other.1 in
    sum_fits c.min-2.result c.args.d near.1 (shift_near c.args.d (rw d_is at c.if-d.false) (rw d_is at c.if-d-gt-FARTHEST_SHIFT.false))

pub overflow_add-align : goal.overflow_add-align
overflow_add-align c =
    let w = c.in-Range in
    let d_is : to_z w64 (of_z w64 c.args.d) ≡ c.args.d = to_z-of_z w64 c.args.d c.ranges.d in
    let asked : IsDim (Range w.begin w.end w.step w.align) = subst IsDim w.is c.requires.dim in
    sum_fits w.align c.args.d asked.2 (shift_near c.args.d (rw d_is at c.if-d.false) (rw d_is at c.if-d-gt-FARTHEST_SHIFT.false))

pub returns : goal.returns
returns c =
    let w = c.in-Range in
    let d_is : to_z w64 (of_z w64 c.args.d) ≡ c.args.d = to_z-of_z w64 c.args.d c.ranges.d in
    let shift : IsUpTo 41 c.args.d = shift_near c.args.d (rw d_is at c.if-d.false) (rw d_is at c.if-d-gt-FARTHEST_SHIFT.false) in
    let asked : IsDim (Range w.begin w.end w.step w.align) = subst IsDim w.is c.requires.dim in
    let low = max_near c.max-2.result w.begin c.args.to.now.first c.max-2.ensures.value asked.1.0 c.requires.other.0 in
    let high = min_near c.min-2.result w.end c.args.to.now.last c.min-2.ensures.value asked.1.1 c.requires.other.1 in
    let step_is : to_z w64 (of_z w64 w.step) ≡ w.step = omega (arith, ints) in
    within_near c.range_or_nothing-2.result c.args.from.now c.args.to.now c.args.lo c.args.hi c.args.d w.begin w.end w.step w.align
    (to_z w64 (of_z w64 c.max-4.result)) (to_z w64 (of_z w64 c.min-4.result)) (to_z w64 (of_z w64 w.step)) (to_z w64 (of_z w64 (to_z w64 (of_z w64 w.align) +ℤ to_z w64 (of_z w64 c.args.d)))) c.args.dim.now w.is
    (max_of_three c.max-3.result c.max-4.result c.max-2.result (int_max w.begin c.args.to.now.first) c.args.d c.args.lo c.args.from.now.first low.0 c.max-3.ensures.value c.max-4.ensures.value low.1 shift d_is
    (to_z-of_z w64 c.args.lo c.ranges.lo) c.requires.mine.0)
    (min_of_three c.min-3.result c.min-4.result c.min-2.result (int_min w.end c.args.to.now.last) c.args.d c.args.hi c.args.from.now.last high.0 c.min-3.ensures.value c.min-4.ensures.value high.1 shift d_is
    (to_z-of_z w64 c.args.hi c.ranges.hi) c.requires.mine.1)
    step_is (align_told w.align c.args.d asked.2 shift d_is) c.range_or_nothing-2.ensures

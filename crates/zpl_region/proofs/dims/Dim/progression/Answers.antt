use Rattle.std.proofs.Common.{◌≡◌, ℕ, ◌+◌, ◌-◌, ◌*◌, ◌/◌, ◌<◌, w64, to_z, of_z, pos, ◌+ℤ◌, ◌≤ℤ◌, unsigned_abs, refl, ◌∙◌, ap, arith}
use Rattle.std.proofs.lemmas.Int.{ints}
use Rattle.zpl_region.specs.declared.dims.Dim.TheVariants.{Range}
use Rattle.zpl_region.specs.Dim.{IsDim}
use Rattle.zpl_region.specs.Progression.{progression}
use Rattle.zpl_region.proofs.DimLemmas.{Skip, skip_from, range_empty, range_filled}
use Rattle.zpl_region.proofs.dims.Dim.progression.Goals as goal
use Rattle.zpl_region.proofs.dims.Dim.progression.Goals.{After-abs_diff-width, then-hi-lo-via-then-hi-lo, then-hi-lo-via-else-hi-lo+then-width-skipped}

asked : (c : After-abs_diff-width) → IsDim (Range c.in-Range.lo c.in-Range.hi c.in-Range.step c.in-Range.align)
asked c = rw c.in-Range.is at c.requires

skip : (c : After-abs_diff-width) (s : ℕ) → pos s ≡ c.in-Range.step → Skip c.in-Range.lo c.in-Range.align c.in-Range.step c.unsigned_abs-skipped.result s
skip c s step_is =
    let a = asked c in
    skip_from c.in-Range.lo c.in-Range.align c.in-Range.step _ _ c.rem_euclid.result c.unsigned_abs-skipped.result s a.0 (omega (arith, ints)) (omega (arith, ints)) c.rem_euclid.ensures.value (omega (arith, ints)) step_is

width : (c : After-abs_diff-width) → c.in-Range.lo ≤ℤ c.in-Range.hi → c.in-Range.lo +ℤ pos c.abs_diff-width.result ≡ c.in-Range.hi
width c h = omega (arith, ints)

pub returns-then-hi-lo-clause-terms : goal.returns-then-hi-lo-clause-terms
returns-then-hi-lo-clause-terms c =
    let w = (goal.at.returns-then-hi-lo-clause-terms c).After-abs_diff-width in
    let r = c.in-Range in
    let a = asked w in
    let step_is : pos (unsigned_abs r.step) ≡ r.step = omega (arith, ints) in
    rw c.in-Range.is (range_empty r.lo r.hi r.step r.align c.unsigned_abs-skipped.result (unsigned_abs r.step) (skip w (unsigned_abs r.step) step_is) (elim c.then-hi-lo.branch [
      | then-hi-lo-via-then-hi-lo v ↦ omega (arith, ints)
      | then-hi-lo-via-else-hi-lo+then-width-skipped v ↦ omega (arith, ints, width w (omega (arith, ints)))
    ]))

pub returns-then-more-eq0-clause-normal : goal.returns-then-more-eq0-clause-normal
returns-then-more-eq0-clause-normal c =
    let w = (goal.at.returns-then-more-eq0-clause-normal c).After-abs_diff-width in
    let a = asked w in
    let wide = width w (omega (arith, ints)) in
    record { rising = omega arith; low = omega (arith, ints); high = omega (arith, ints); none = λ e. absurd (omega arith); short = λ e. refl }

pub returns-then-more-eq0-clause-terms : goal.returns-then-more-eq0-clause-terms
returns-then-more-eq0-clause-terms c =
    let w = (goal.at.returns-then-more-eq0-clause-terms c).After-abs_diff-width in
    let r = c.in-Range in
    let a = asked w in
    let k = c.unsigned_abs-skipped.result in
    let s = c.unsigned_abs-step.result in
    let first = to_z w64 (of_z w64 (to_z w64 (of_z w64 r.lo) +ℤ to_z w64 k)) in
    let one : 1 ≡ (c.abs_diff-width.result - k) / s + 1 = omega arith in
    let step_is : pos s ≡ r.step = omega (arith, ints) in
    let wide = width w (omega (arith, ints)) in
    rw c.in-Range.is (ap (progression first s) one ∙ range_filled r.lo r.hi r.step r.align k s (skip w s step_is) first (c.abs_diff-width.result - k) (omega (arith, ints)) (omega (arith, ints)))

pub returns-clause-normal : goal.returns-clause-normal
returns-clause-normal c =
    let w = (goal.at.returns-clause-normal c).After-abs_diff-width in
    let a = asked w in
    let wide = width w (omega (arith, ints)) in
    let s = c.unsigned_abs-step.result in
    let more = (c.abs_diff-width.result - c.unsigned_abs-skipped.result) / s in
    let rising : 0 < s = omega (arith, ints) in
    let last : (more + 1 - 1) * s ≡ more * s = let less : more + 1 - 1 ≡ more = omega arith in ap (λ n. n * s) less in
    record { rising = rising; low = omega (arith, ints); high = omega (arith, ints); none = λ e. absurd (omega arith); short = λ e. absurd (omega arith) }

pub returns-clause-terms : goal.returns-clause-terms
returns-clause-terms c =
    let w = (goal.at.returns-clause-terms c).After-abs_diff-width in
    let r = c.in-Range in
    let a = asked w in
    let k = c.unsigned_abs-skipped.result in
    let s = c.unsigned_abs-step.result in
    let first = to_z w64 (of_z w64 (to_z w64 (of_z w64 r.lo) +ℤ to_z w64 k)) in
    let step_is : pos s ≡ r.step = omega (arith, ints) in
    let wide = width w (omega (arith, ints)) in
    rw c.in-Range.is (range_filled r.lo r.hi r.step r.align k s (skip w s step_is) first (c.abs_diff-width.result - k) (omega (arith, ints)) (omega (arith, ints)))

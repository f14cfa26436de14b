use Rattle.std.proofs.Common.{◌≡◌, w64, to_z, of_z, ◌+ℤ◌, ◌-ℤ◌, pos, unsigned_abs, sym, ◌∙◌, ap, arith}
use Rattle.std.specs.Prelude.{nat_le}
use Rattle.std.proofs.lemmas.Int.{ints, clamps}
use Rattle.zpl_region.specs.declared.dims.Dim.TheVariants.{Range}
use Rattle.zpl_region.specs.Dim.{IsDim, extent}
use Rattle.zpl_region.proofs.DimLemmas.{pos-extent}
use Rattle.zpl_arrays.proofs.CheckLemmas.{wide_border}
use Rattle.zpl_arrays.proofs.SourceLemmas.{near_fits}
use Rattle.zpl_arrays.proofs.checks.dim_border_conforms.Goals as goal
use Rattle.zpl_arrays.proofs.checks.dim_border_conforms.Goals.{In-Range}

asked : (c : In-Range) → IsDim (Range c.in-Range.lo c.in-Range.hi c.in-Range.step c.in-Range.align)
asked c = rw c.in-Range.is at c.requires

gap_is : (c : In-Range) → to_z w64 (of_z w64 (to_z w64 (of_z w64 c.in-Range.hi) -ℤ to_z w64 (of_z w64 c.in-Range.lo))) ≡ c.in-Range.hi -ℤ c.in-Range.lo
gap_is c = let a = asked c in omega (arith, ints)

wide_is : (c : In-Range) → to_z w64 (of_z w64 (to_z w64 (of_z w64 (to_z w64 (of_z w64 c.in-Range.hi) -ℤ to_z w64 (of_z w64 c.in-Range.lo))) +ℤ pos 1)) ≡ (c.in-Range.hi -ℤ c.in-Range.lo) +ℤ pos 1
wide_is c = let a = asked c in let g = gap_is c in omega (arith, ints)

pub overflow_add-hi : goal.overflow_add-hi
overflow_add-hi c = let w = (goal.at.overflow_add-hi c).In-Range in let a = asked w in let g = gap_is w in near_fits _ (omega (arith, ints)) (omega (arith, ints))

pub returns-then-step-eq1 : goal.returns-then-step-eq1
returns-then-step-eq1 c =
    let r = c.in-Range in
    let w = (goal.at.returns-then-step-eq1 c).In-Range in
    let a = asked w in
    let g = wide_is w in
    let size : c.unsigned_abs.result ≡ unsigned_abs c.args.d = omega (arith, ints, c.unsigned_abs.ensures.value) in
    let most : to_z w64 (of_z w64 c.max.result) ≡ pos (extent r.lo r.hi) = omega (arith, ints, clamps, pos-extent r.lo r.hi, c.max.ensures.value) in
    let wide : c.unsigned_abs-then-step-eq1.result ≡ extent r.lo r.hi = c.unsigned_abs-then-step-eq1.ensures.value ∙ ap unsigned_abs most in
    ap (λ n. nat_le n c.unsigned_abs-then-step-eq1.result) size
    ∙ (ap (nat_le (unsigned_abs c.args.d)) wide
    ∙ sym (rw c.in-Range.is (wide_border c.args.d r.lo r.hi r.step r.align (λ e. omega (arith, ints, c.if-d-eq0.false)) (omega (arith, ints, c.if-step-eq1.true)))))

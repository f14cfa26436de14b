use Rattle.std.proofs.Common.{◌≡◌, ◌-◌, w64, to_z, of_z, ℤ, pos, neg_ℤ, ◌*ℤ◌, ◌≤ℤ◌, length, slice_get, unsigned_abs, unwrap_or, ◌∙◌, ap, arith}
use Rattle.std.specs.Int.{saturate_signed}
use Rattle.std.proofs.lemmas.Int.{ints}
use Rattle.zpl_region.specs.declared.dims.Dim.TheVariants.{Range}
use Rattle.zpl_region.specs.Dim.{IsDim, coordinates, dim_strided, least_or, greatest_or}
use Rattle.zpl_region.specs.Progression.{terms}
use Rattle.zpl_region.proofs.FormLemmas.{NearStep, near_range, near_same, near_strided, strided_rises, strided_above, strided_below}
use Rattle.zpl_region.proofs.dims.Dim.strided.Goals as goal
use Rattle.zpl_region.proofs.dims.Dim.strided.Goals.{After-saturating_mul-step}

-- the step, as the code computes it from the size of d
abs_of : (c : After-saturating_mul-step) (size : ℤ) → pos (unsigned_abs (to_z w64 (of_z w64 c.args.d))) ≡ size → c.saturating_abs.result ≡ saturate_signed w64 size
abs_of c size size_is = c.saturating_abs.ensures ∙ ap (saturate_signed w64) size_is

step_of : (c : After-saturating_mul-step) → pos 1 ≤ℤ c.in-Range.step → to_z w64 (of_z w64 c.saturating_mul-step.result) ≡ saturate_signed w64 (c.in-Range.step *ℤ c.saturating_abs.result)
step_of c rising =
    let step = c.in-Range.step in
    let abs = c.saturating_abs.result in
    let product = c.saturating_mul-step.result in
    let step_is : to_z w64 (of_z w64 step) ≡ step = omega (arith, ints) in
    let abs_is : to_z w64 (of_z w64 abs) ≡ abs = omega (arith, ints) in
    let product_is : to_z w64 (of_z w64 product) ≡ product = omega (arith, ints) in
    product_is
    ∙ (c.saturating_mul-step.ensures
    ∙ (ap (λ z. saturate_signed w64 (z *ℤ to_z w64 (of_z w64 abs))) step_is
    ∙ ap (λ z. saturate_signed w64 (step *ℤ z)) abs_is))

near_step : (c : After-saturating_mul-step) (size : ℤ) → pos 1 ≤ℤ c.in-Range.step → pos 0 ≤ℤ size → pos (unsigned_abs (to_z w64 (of_z w64 c.args.d))) ≡ size
    → NearStep (to_z w64 (of_z w64 c.saturating_mul-step.result)) (c.in-Range.step *ℤ size)
near_step c size rising above size_is =
    near_strided c.in-Range.step size (to_z w64 (of_z w64 c.saturating_mul-step.result)) c.saturating_abs.result rising above (abs_of c size size_is) (step_of c rising)

rises : (c : After-saturating_mul-step) (size : ℤ) → pos 1 ≤ℤ c.in-Range.step → pos 1 ≤ℤ size → pos (unsigned_abs (to_z w64 (of_z w64 c.args.d))) ≡ size
    → pos 1 ≤ℤ to_z w64 (of_z w64 c.saturating_mul-step.result)
rises c size rising above size_is =
    strided_rises c.in-Range.step size (to_z w64 (of_z w64 c.saturating_mul-step.result)) c.saturating_abs.result rising above (abs_of c size size_is) (step_of c rising)

pub returns-then-d-gt0-clause-near : goal.returns-then-d-gt0-clause-near
returns-then-d-gt0-clause-near c =
    let r = c.in-Range in
    let d = c.args.d in
    let range = Range r.lo r.hi r.step r.align in
    let asked : IsDim (Range r.lo r.hi r.step r.align) = rw r.is at c.requires in
    let lo_is : to_z w64 (of_z w64 r.lo) ≡ r.lo = omega (arith, ints) in
    let list : terms c.progression-coordinates.result ≡ coordinates range = rw r.is at c.progression-coordinates.ensures.terms in
    let align_is : c.unwrap_or-align.result ≡ least_or r.lo range = c.unwrap_or-align.ensures ∙ (ap (λ o. unwrap_or o (to_z w64 (of_z w64 r.lo))) (c.least.ensures ∙ ap (λ l. slice_get l 0) list) ∙ ap (unwrap_or (slice_get (coordinates range) 0)) lo_is) in
    rw r.is (near_range _ _ _ _ r.lo r.hi (r.step *ℤ d) (least_or r.lo range) (dim_strided d range)
    (strided_above d r.lo r.hi r.step r.align (omega (arith, ints)))
    (near_same 31 _ _ (omega (arith, ints)))
    (near_same 31 _ _ (omega (arith, ints)))
    (near_step (goal.at.returns-then-d-gt0-clause-near c).After-saturating_mul-step d asked.0 (omega (arith, ints)) (omega (arith, ints)))
    (near_same 40 _ _ (omega (arith, ints))))

pub returns-then-d-lt0-clause-near : goal.returns-then-d-lt0-clause-near
returns-then-d-lt0-clause-near c =
    let r = c.in-Range in
    let d = c.args.d in
    let range = Range r.lo r.hi r.step r.align in
    let asked : IsDim (Range r.lo r.hi r.step r.align) = rw r.is at c.requires in
    let hi_is : to_z w64 (of_z w64 r.hi) ≡ r.hi = omega (arith, ints) in
    let list : terms c.progression-coordinates.result ≡ coordinates range = rw r.is at c.progression-coordinates.ensures.terms in
    let align = c.unwrap_or-align-then-d-lt0 in
    let align_is : align.result ≡ greatest_or r.hi range = align.ensures ∙ (ap (λ o. unwrap_or o (to_z w64 (of_z w64 r.hi))) (c.greatest.ensures ∙ ap (λ l. slice_get l (length l - 1)) list) ∙ ap (unwrap_or (slice_get (coordinates range) (length (coordinates range) - 1))) hi_is) in
    rw r.is (near_range _ _ _ _ r.lo r.hi (r.step *ℤ neg_ℤ d) (greatest_or r.hi range) (dim_strided d range)
    (strided_below d r.lo r.hi r.step r.align (omega (arith, ints)))
    (near_same 31 _ _ (omega (arith, ints)))
    (near_same 31 _ _ (omega (arith, ints)))
    (near_step (goal.at.returns-then-d-lt0-clause-near c).After-saturating_mul-step (neg_ℤ d) asked.0 (omega (arith, ints)) (omega (arith, ints)))
    (near_same 40 _ _ (omega (arith, ints))))

pub returns-then-d-gt0-clause-step : goal.returns-then-d-gt0-clause-step
returns-then-d-gt0-clause-step c =
    let r = c.in-Range in
    let asked : IsDim (Range r.lo r.hi r.step r.align) = rw r.is at c.requires in
    rises (goal.at.returns-then-d-gt0-clause-step c).After-saturating_mul-step c.args.d asked.0 (omega (arith, ints)) (omega (arith, ints))

pub returns-then-d-lt0-clause-step : goal.returns-then-d-lt0-clause-step
returns-then-d-lt0-clause-step c =
    let r = c.in-Range in
    let asked : IsDim (Range r.lo r.hi r.step r.align) = rw r.is at c.requires in
    rises (goal.at.returns-then-d-lt0-clause-step c).After-saturating_mul-step (neg_ℤ c.args.d) asked.0 (omega (arith, ints)) (omega (arith, ints))

use Rattle.std.proofs.Common.{◌≡◌, ◌<◌, ◌/◌, pos, get_or, ◌-ℤ◌, unsigned_abs, w64, to_z, of_z, sym, ◌∙◌, ap, subst, arith}
use Rattle.std.proofs.lemmas.Int.{ints}
use Rattle.zpl_arrays.specs.of_zpl_region.Ends.{coordinate_count, least_member}
use Rattle.zpl_arrays.specs.Array.{place_along}
use Rattle.region_places.proofs.PlaceLemmas.{no_least, place_below, place_of_range, single, step_above}
use Rattle.region_places.proofs.places.place_along.Goals as goal
use Rattle.region_places.proofs.places.place_along.Goals.{After-unsigned_abs, In-None}

size_is : (c : After-unsigned_abs) → c.unsigned_abs.result ≡ unsigned_abs c.in-Range.step
size_is c =
    let step_is : to_z w64 (of_z w64 c.in-Range.step) ≡ c.in-Range.step = omega (arith, ints) in
    c.unsigned_abs.ensures.value ∙ ap unsigned_abs step_is

place_is : (c : After-unsigned_abs) → c.abs_diff.result / c.unsigned_abs.result ≡ place_along c.args.dim c.args.x
place_is c =
    let r = c.in-Range in
    let told = c.least.ensures ∙ ap (λ e. least_member (single e)) (sym r.is) in
    let x_is : to_z w64 (of_z w64 c.args.x) ≡ c.args.x = omega (arith, ints) in
    let first_is : to_z w64 (of_z w64 (get_or c.in-Some.least 0 (pos 0))) ≡ get_or c.in-Some.least 0 (pos 0) = omega (arith, ints) in
    let far : c.abs_diff.result ≡ unsigned_abs (c.args.x -ℤ get_or c.in-Some.least 0 (pos 0)) = c.abs_diff.ensures ∙ (ap (λ z. unsigned_abs (z -ℤ to_z w64 (of_z w64 (get_or c.in-Some.least 0 (pos 0))))) x_is ∙ ap (λ z. unsigned_abs (c.args.x -ℤ z)) first_is) in
    place_of_range c.args.dim c.in-Some.least c.args.x r.lo r.hi r.step r.align _ _ c.requires.dim c.requires.coordinate r.is told c.in-Some.is far (size_is c)

none : (c : In-None) → ⊥
none c =
    let r = c.in-Range in
    let told = c.least.ensures ∙ ap (λ e. least_member (single e)) (sym r.is) in no_least c.args.dim c.args.x c.requires.dim c.requires.coordinate told c.in-None.is

pub nonzero_div-result : goal.nonzero_div-result
nonzero_div-result c =
    let r = c.in-Range in step_above c.args.dim r.lo r.hi r.step r.align c.unsigned_abs.result c.requires.dim r.is (size_is (goal.at.nonzero_div-result c).After-unsigned_abs)

pub returns-in-Some-clause-place : goal.returns-in-Some-clause-place
returns-in-Some-clause-place c = place_is (goal.at.returns-in-Some-clause-place c).After-unsigned_abs

pub returns-in-Some-clause-below : goal.returns-in-Some-clause-below
returns-in-Some-clause-below c =
    subst (λ n. n < coordinate_count c.args.dim) (sym (place_is (goal.at.returns-in-Some-clause-below c).After-unsigned_abs)) (place_below c.args.dim c.args.x c.requires.dim.0 c.requires.coordinate)

pub returns-in-None-clause-place : goal.returns-in-None-clause-place
returns-in-None-clause-place c = absurd (none (goal.at.returns-in-None-clause-place c).In-None)

pub returns-in-None-clause-below : goal.returns-in-None-clause-below
returns-in-None-clause-below c = absurd (none (goal.at.returns-in-None-clause-below c).In-None)

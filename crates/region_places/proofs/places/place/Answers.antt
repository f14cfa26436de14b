use Rattle.std.proofs.Common.{◌≡◌, w64, to_z, of_z, pos, get_or, refl, sym, ◌∙◌, ap, subst, arith}
use Rattle.std.proofs.lemmas.Int.{ints}
use Rattle.zpl_arrays.specs.of_zpl_region.declared.dims.Dim.{Dim}
use Rattle.zpl_arrays.specs.of_zpl_region.declared.dims.Dim.TheVariants.{Range}
use Rattle.zpl_arrays.specs.of_zpl_region.Dim.{IsCoordinate}
use Rattle.zpl_arrays.specs.of_zpl_region.Ends.{coordinate_count}
use Rattle.zpl_arrays.proofs.of_zpl_region.HullLemmas.{has_steps}
use Rattle.zpl_arrays.specs.Array.{place_along}
use Rattle.region_places.proofs.PlaceLemmas.{ArePlaces, coordinate_at, places_of}
use Rattle.region_places.proofs.places.place.Goals as goal
use Rattle.region_places.proofs.places.place.Goals.{After-size, After-size-2, After-place_along-3}

abbrev blank : Dim
blank = Range (pos 0) (pos 0) (pos 0) (pos 0)

pub place_along-requires-2-clause-coordinate : goal.place_along-requires-2-clause-coordinate
place_along-requires-2-clause-coordinate c =
    let y : to_z w64 (of_z w64 (get_or c.args.x.now 1 (pos 0))) ≡ get_or c.args.x.now 1 (pos 0) = omega (arith, ints) in
    subst (IsCoordinate (get_or c.args.region.now.dims 1 blank)) (sym y) (coordinate_at c.args.region.now.dims c.args.x.now 1 blank c.requires.member (omega arith))

-- the product of the first line
begun : (c : After-size) → ArePlaces c.args.region.now.dims c.args.x.now c.place_along.result (place_along (get_or c.args.region.now.dims 1 blank) (get_or c.args.x.now 1 (pos 0)))
    (place_along (get_or c.args.region.now.dims 2 blank) (get_or c.args.x.now 2 (pos 0))) c.size.result (coordinate_count (get_or c.args.region.now.dims 2 blank))
begun c =
    let x : to_z w64 (of_z w64 (get_or c.args.x.now 0 (pos 0))) ≡ get_or c.args.x.now 0 (pos 0) = omega (arith, ints) in
    places_of c.args.region.now.dims c.args.x.now blank _ _ _ _ _ (omega arith) (omega arith) (has_steps c.args.region.now.dims c.requires.region.dims) c.requires.member
    (c.place_along.ensures.place ∙ ap (place_along (get_or c.args.region.now.dims 0 blank)) x) refl refl c.size.ensures.size refl

gone_on : (c : After-size-2) → ArePlaces c.args.region.now.dims c.args.x.now c.place_along.result c.place_along-2.result
    (place_along (get_or c.args.region.now.dims 2 blank) (get_or c.args.x.now 2 (pos 0))) c.size.result c.size-2.result
gone_on c =
    let x : to_z w64 (of_z w64 (get_or c.args.x.now 0 (pos 0))) ≡ get_or c.args.x.now 0 (pos 0) = omega (arith, ints) in
    let y : to_z w64 (of_z w64 (get_or c.args.x.now 1 (pos 0))) ≡ get_or c.args.x.now 1 (pos 0) = omega (arith, ints) in
    places_of c.args.region.now.dims c.args.x.now blank _ _ _ _ _ (omega arith) (omega arith) (has_steps c.args.region.now.dims c.requires.region.dims) c.requires.member
    (c.place_along.ensures.place ∙ ap (place_along (get_or c.args.region.now.dims 0 blank)) x)
    (c.place_along-2.ensures.place ∙ ap (place_along (get_or c.args.region.now.dims 1 blank)) y) refl c.size.ensures.size c.size-2.ensures.size

ended : (c : After-place_along-3) → ArePlaces c.args.region.now.dims c.args.x.now c.place_along.result c.place_along-2.result c.place_along-3.result c.size.result c.size-2.result
ended c =
    let x : to_z w64 (of_z w64 (get_or c.args.x.now 0 (pos 0))) ≡ get_or c.args.x.now 0 (pos 0) = omega (arith, ints) in
    let y : to_z w64 (of_z w64 (get_or c.args.x.now 1 (pos 0))) ≡ get_or c.args.x.now 1 (pos 0) = omega (arith, ints) in
    let z : to_z w64 (of_z w64 (get_or c.args.x.now 2 (pos 0))) ≡ get_or c.args.x.now 2 (pos 0) = omega (arith, ints) in
    places_of c.args.region.now.dims c.args.x.now blank _ _ _ _ _ (omega arith) (omega arith) (has_steps c.args.region.now.dims c.requires.region.dims) c.requires.member
    (c.place_along.ensures.place ∙ ap (place_along (get_or c.args.region.now.dims 0 blank)) x)
    (c.place_along-2.ensures.place ∙ ap (place_along (get_or c.args.region.now.dims 1 blank)) y)
    (c.place_along-3.ensures.place ∙ ap (place_along (get_or c.args.region.now.dims 2 blank)) z) c.size.ensures.size c.size-2.ensures.size

pub overflow_mul-line : goal.overflow_mul-line
overflow_mul-line c = let w = begun (goal.at.overflow_mul-line c).After-size in omega (arith, w.line, w.below, c.requires.fits)

pub overflow_add-line : goal.overflow_add-line
overflow_add-line c =
    let x : to_z w64 (of_z w64 (get_or c.args.x.now 0 (pos 0))) ≡ get_or c.args.x.now 0 (pos 0) = omega (arith, ints) in
    let y : to_z w64 (of_z w64 (get_or c.args.x.now 1 (pos 0))) ≡ get_or c.args.x.now 1 (pos 0) = omega (arith, ints) in
    let w = places_of c.args.region.now.dims c.args.x.now blank _ _ _ _ _ (omega arith) (omega arith) (has_steps c.args.region.now.dims c.requires.region.dims) c.requires.member
    (c.place_along.ensures.place ∙ ap (place_along (get_or c.args.region.now.dims 0 blank)) x)
    (c.place_along-2.ensures.place ∙ ap (place_along (get_or c.args.region.now.dims 1 blank)) y) refl c.size.ensures.size refl in
    omega (arith, w.line, w.below, c.requires.fits)

pub overflow_mul-result : goal.overflow_mul-result
overflow_mul-result c = let w = gone_on (goal.at.overflow_mul-result c).After-size-2 in omega (arith, w.below, c.requires.fits)

pub overflow_add-result : goal.overflow_add-result
overflow_add-result c = let w = ended (goal.at.overflow_add-result c).After-place_along-3 in omega (arith, w.below, c.requires.fits)

pub returns-clause-place : goal.returns-clause-place
returns-clause-place c = (ended (goal.at.returns-clause-place c).After-place_along-3).whole

pub returns-clause-below : goal.returns-clause-below
returns-clause-below c = (ended (goal.at.returns-clause-below c).After-place_along-3).below

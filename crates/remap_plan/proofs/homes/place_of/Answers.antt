use Rattle.std.proofs.Common.{◌≡◌, get_or, to_z, of_z, w64, pos, refl, subst, sym, arith}
use Rattle.std.proofs.lemmas.Int.{ints}
use Rattle.zpl_region.specs.declared.dims.Dim.{Dim}
use Rattle.zpl_region.specs.declared.dims.Dim.TheVariants.{Range}
use Rattle.zpl_region.specs.Dim.{IsCoordinate}
use Rattle.zpl_region.specs.Ends.{coordinate_count}
use Rattle.zpl_arrays.specs.Array.{place_along, place_among}
use Rattle.remap_plan.proofs.HomeLemmas.{coordinate_at, parts_of, places_told, some_at}
use Rattle.remap_plan.proofs.homes.place_of.Goals as goal

abbrev zero_dim : Dim
zero_dim = Range (pos 0) (pos 0) (pos 0) (pos 0)

pub place_along-requires-clause-member : goal.place_along-requires-clause-member
place_along-requires-clause-member c =
    let x : to_z w64 (of_z w64 (get_or c.args.x.now 0 (pos 0))) ≡ get_or c.args.x.now 0 (pos 0) = omega (arith, ints) in
    subst (IsCoordinate (get_or c.args.held.now.dims 0 zero_dim)) (sym x) (coordinate_at c.args.held.now.dims c.args.x.now 0 zero_dim c.requires.member (omega arith))

pub place_along-requires-2-clause-member : goal.place_along-requires-2-clause-member
place_along-requires-2-clause-member c =
    let x : to_z w64 (of_z w64 (get_or c.args.x.now 1 (pos 0))) ≡ get_or c.args.x.now 1 (pos 0) = omega (arith, ints) in
    subst (IsCoordinate (get_or c.args.held.now.dims 1 zero_dim)) (sym x) (coordinate_at c.args.held.now.dims c.args.x.now 1 zero_dim c.requires.member (omega arith))

pub place_along-requires-3-clause-member : goal.place_along-requires-3-clause-member
place_along-requires-3-clause-member c =
    let x : to_z w64 (of_z w64 (get_or c.args.x.now 2 (pos 0))) ≡ get_or c.args.x.now 2 (pos 0) = omega (arith, ints) in
    subst (IsCoordinate (get_or c.args.held.now.dims 2 zero_dim)) (sym x) (coordinate_at c.args.held.now.dims c.args.x.now 2 zero_dim c.requires.member (omega arith))

pub overflow_mul-line : goal.overflow_mul-line
overflow_mul-line c =
    let dims = c.args.held.now.dims in
    let x = c.args.x.now in
    let x0 : to_z w64 (of_z w64 (get_or x 0 (pos 0))) ≡ get_or x 0 (pos 0) = omega (arith, ints) in
    let x1 : to_z w64 (of_z w64 (get_or x 1 (pos 0))) ≡ get_or x 1 (pos 0) = omega (arith, ints) in
    let x2 : to_z w64 (of_z w64 (get_or x 2 (pos 0))) ≡ get_or x 2 (pos 0) = omega (arith, ints) in
    let some = some_at dims x 2 zero_dim c.requires.region.dims c.requires.member (omega arith) in
    let parts = parts_of c.place_along.result c.size.result (place_along (get_or dims 1 zero_dim) (get_or x 1 (pos 0))) (coordinate_count (get_or dims 2 zero_dim)) (place_along (get_or dims 2 zero_dim) (get_or x 2 (pos 0))) (place_among dims x) some
    (places_told dims x zero_dim c.place_along.result c.size.result (place_along (get_or dims 1 zero_dim) (get_or x 1 (pos 0))) (coordinate_count (get_or dims 2 zero_dim)) (place_along (get_or dims 2 zero_dim) (get_or x 2 (pos 0))) (omega arith) (omega arith) (rw x0 at c.place_along.ensures) c.size.ensures.size refl refl refl) in
    let product = parts.product in
    let fits = c.requires.fits in
    omega (arith, product, fits)

pub overflow_add-line : goal.overflow_add-line
overflow_add-line c =
    let dims = c.args.held.now.dims in
    let x = c.args.x.now in
    let x0 : to_z w64 (of_z w64 (get_or x 0 (pos 0))) ≡ get_or x 0 (pos 0) = omega (arith, ints) in
    let x1 : to_z w64 (of_z w64 (get_or x 1 (pos 0))) ≡ get_or x 1 (pos 0) = omega (arith, ints) in
    let x2 : to_z w64 (of_z w64 (get_or x 2 (pos 0))) ≡ get_or x 2 (pos 0) = omega (arith, ints) in
    let some = some_at dims x 2 zero_dim c.requires.region.dims c.requires.member (omega arith) in
    let parts = parts_of c.place_along.result c.size.result c.place_along-2.result (coordinate_count (get_or dims 2 zero_dim)) (place_along (get_or dims 2 zero_dim) (get_or x 2 (pos 0))) (place_among dims x) some
    (places_told dims x zero_dim c.place_along.result c.size.result c.place_along-2.result (coordinate_count (get_or dims 2 zero_dim)) (place_along (get_or dims 2 zero_dim) (get_or x 2 (pos 0))) (omega arith) (omega arith) (rw x0 at c.place_along.ensures) c.size.ensures.size (rw x1 at c.place_along-2.ensures) refl refl) in
    let line = parts.line in
    let fits = c.requires.fits in
    omega (arith, line, fits)

pub overflow_add-result : goal.overflow_add-result
overflow_add-result c =
    let dims = c.args.held.now.dims in
    let x = c.args.x.now in
    let x0 : to_z w64 (of_z w64 (get_or x 0 (pos 0))) ≡ get_or x 0 (pos 0) = omega (arith, ints) in
    let x1 : to_z w64 (of_z w64 (get_or x 1 (pos 0))) ≡ get_or x 1 (pos 0) = omega (arith, ints) in
    let x2 : to_z w64 (of_z w64 (get_or x 2 (pos 0))) ≡ get_or x 2 (pos 0) = omega (arith, ints) in
    let whole = places_told dims x zero_dim c.place_along.result c.size.result c.place_along-2.result c.size-2.result c.place_along-3.result (omega arith) (omega arith)
    (rw x0 at c.place_along.ensures) c.size.ensures.size (rw x1 at c.place_along-2.ensures) c.size-2.ensures.size (rw x2 at c.place_along-3.ensures) in
    let fits = c.requires.fits in
    omega (arith, whole, fits)

pub returns : goal.returns
returns c =
    let dims = c.args.held.now.dims in
    let x = c.args.x.now in
    let x0 : to_z w64 (of_z w64 (get_or x 0 (pos 0))) ≡ get_or x 0 (pos 0) = omega (arith, ints) in
    let x1 : to_z w64 (of_z w64 (get_or x 1 (pos 0))) ≡ get_or x 1 (pos 0) = omega (arith, ints) in
    let x2 : to_z w64 (of_z w64 (get_or x 2 (pos 0))) ≡ get_or x 2 (pos 0) = omega (arith, ints) in
    places_told dims x zero_dim c.place_along.result c.size.result c.place_along-2.result c.size-2.result c.place_along-3.result (omega arith) (omega arith)
    (rw x0 at c.place_along.ensures) c.size.ensures.size (rw x1 at c.place_along-2.ensures) c.size-2.ensures.size (rw x2 at c.place_along-3.ensures)

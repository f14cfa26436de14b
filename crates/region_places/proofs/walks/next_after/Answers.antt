use Rattle.std.proofs.Common.{◌≡◌, ◌+ℤ◌, pos, arith, get_or, subst, to_z, of_z, w64}
use Rattle.std.proofs.lemmas.Int.{ints}
use Rattle.zpl_arrays.specs.of_zpl_region.declared.dims.Dim.TheVariants.{Range}
use Rattle.region_places.specs.Walk.{HasAmong}
use Rattle.region_places.proofs.WalkLemmas.{column_told, none_told, plane_told, row_told}
use Rattle.region_places.proofs.walks.next_after.Goals as goal

pub returns-then-column-last_column : goal.returns-then-column-last_column
returns-then-column-last_column c =
    let x = c.args.x.now in
    let dims = c.args.region.now.dims in
    let x0 : to_z w64 (of_z w64 (get_or x 0 (pos 0))) ≡ get_or x 0 (pos 0) = omega (arith, ints) in
    let x1 : to_z w64 (of_z w64 (get_or x 1 (pos 0))) ≡ get_or x 1 (pos 0) = omega (arith, ints) in
    let x2 : to_z w64 (of_z w64 (get_or x 2 (pos 0))) ≡ get_or x 2 (pos 0) = omega (arith, ints) in
    let p0 = subst (HasAmong (get_or dims 0 (Range (pos 0) (pos 0) (pos 0) (pos 0))) c.in-Some.field-0-0 c.in-Some.last_plane) x0 c.in-Some.ensures in
    let p1 = subst (HasAmong (get_or dims 1 (Range (pos 0) (pos 0) (pos 0) (pos 0))) c.in-Some-ones_around.first_row c.in-Some-ones_around.last_row) x1 c.in-Some-ones_around.ensures in
    let p2 = subst (HasAmong (get_or dims 2 (Range (pos 0) (pos 0) (pos 0) (pos 0))) c.in-Some-ones_around-2.first_column c.in-Some-ones_around-2.last_column) x2 c.in-Some-ones_around-2.ensures in
    let n : to_z w64 (of_z w64 (to_z w64 (of_z w64 (get_or x 2 (pos 0))) +ℤ pos 1)) ≡ get_or x 2 (pos 0) +ℤ pos 1 = omega (arith, ints) in
    rw (n, x0, x1) (column_told c.args.region.now x (Range (pos 0) (pos 0) (pos 0) (pos 0)) c.in-Some.field-0-0 c.in-Some.last_plane c.in-Some-ones_around.first_row c.in-Some-ones_around.last_row c.in-Some-ones_around-2.first_column c.in-Some-ones_around-2.last_column
    c.see_three.ensures (omega arith) p0 p1 p2 (omega (arith, ints)))

pub returns-then-row-last_row : goal.returns-then-row-last_row
returns-then-row-last_row c =
    let x = c.args.x.now in
    let dims = c.args.region.now.dims in
    let x0 : to_z w64 (of_z w64 (get_or x 0 (pos 0))) ≡ get_or x 0 (pos 0) = omega (arith, ints) in
    let x1 : to_z w64 (of_z w64 (get_or x 1 (pos 0))) ≡ get_or x 1 (pos 0) = omega (arith, ints) in
    let x2 : to_z w64 (of_z w64 (get_or x 2 (pos 0))) ≡ get_or x 2 (pos 0) = omega (arith, ints) in
    let p0 = subst (HasAmong (get_or dims 0 (Range (pos 0) (pos 0) (pos 0) (pos 0))) c.in-Some.field-0-0 c.in-Some.last_plane) x0 c.in-Some.ensures in
    let p1 = subst (HasAmong (get_or dims 1 (Range (pos 0) (pos 0) (pos 0) (pos 0))) c.in-Some-ones_around.first_row c.in-Some-ones_around.last_row) x1 c.in-Some-ones_around.ensures in
    let p2 = subst (HasAmong (get_or dims 2 (Range (pos 0) (pos 0) (pos 0) (pos 0))) c.in-Some-ones_around-2.first_column c.in-Some-ones_around-2.last_column) x2 c.in-Some-ones_around-2.ensures in
    let n : to_z w64 (of_z w64 (to_z w64 (of_z w64 (get_or x 1 (pos 0))) +ℤ pos 1)) ≡ get_or x 1 (pos 0) +ℤ pos 1 = omega (arith, ints) in
    let d : to_z w64 (of_z w64 c.in-Some-ones_around-2.first_column) ≡ c.in-Some-ones_around-2.first_column = omega (arith, ints) in
    rw (n, x0, d) (row_told c.args.region.now x (Range (pos 0) (pos 0) (pos 0) (pos 0)) c.in-Some.field-0-0 c.in-Some.last_plane c.in-Some-ones_around.first_row c.in-Some-ones_around.last_row c.in-Some-ones_around-2.first_column c.in-Some-ones_around-2.last_column
    c.see_three.ensures (omega arith) p0 p1 p2 (omega (arith, ints)) (omega (arith, ints)))

pub returns-then-plane-last_plane : goal.returns-then-plane-last_plane
returns-then-plane-last_plane c =
    let x = c.args.x.now in
    let dims = c.args.region.now.dims in
    let x0 : to_z w64 (of_z w64 (get_or x 0 (pos 0))) ≡ get_or x 0 (pos 0) = omega (arith, ints) in
    let x1 : to_z w64 (of_z w64 (get_or x 1 (pos 0))) ≡ get_or x 1 (pos 0) = omega (arith, ints) in
    let x2 : to_z w64 (of_z w64 (get_or x 2 (pos 0))) ≡ get_or x 2 (pos 0) = omega (arith, ints) in
    let p0 = subst (HasAmong (get_or dims 0 (Range (pos 0) (pos 0) (pos 0) (pos 0))) c.in-Some.field-0-0 c.in-Some.last_plane) x0 c.in-Some.ensures in
    let p1 = subst (HasAmong (get_or dims 1 (Range (pos 0) (pos 0) (pos 0) (pos 0))) c.in-Some-ones_around.first_row c.in-Some-ones_around.last_row) x1 c.in-Some-ones_around.ensures in
    let p2 = subst (HasAmong (get_or dims 2 (Range (pos 0) (pos 0) (pos 0) (pos 0))) c.in-Some-ones_around-2.first_column c.in-Some-ones_around-2.last_column) x2 c.in-Some-ones_around-2.ensures in
    let n : to_z w64 (of_z w64 (to_z w64 (of_z w64 (get_or x 0 (pos 0))) +ℤ pos 1)) ≡ get_or x 0 (pos 0) +ℤ pos 1 = omega (arith, ints) in
    let b : to_z w64 (of_z w64 c.in-Some-ones_around.first_row) ≡ c.in-Some-ones_around.first_row = omega (arith, ints) in
    let d : to_z w64 (of_z w64 c.in-Some-ones_around-2.first_column) ≡ c.in-Some-ones_around-2.first_column = omega (arith, ints) in
    rw (n, b, d) (plane_told c.args.region.now x (Range (pos 0) (pos 0) (pos 0) (pos 0)) c.in-Some.field-0-0 c.in-Some.last_plane c.in-Some-ones_around.first_row c.in-Some-ones_around.last_row c.in-Some-ones_around-2.first_column c.in-Some-ones_around-2.last_column
    c.see_three.ensures (omega arith) p0 p1 p2 (omega (arith, ints)) (omega (arith, ints)) (omega (arith, ints)))

pub returns : goal.returns
returns c =
    let x = c.args.x.now in
    let dims = c.args.region.now.dims in
    let x0 : to_z w64 (of_z w64 (get_or x 0 (pos 0))) ≡ get_or x 0 (pos 0) = omega (arith, ints) in
    let x1 : to_z w64 (of_z w64 (get_or x 1 (pos 0))) ≡ get_or x 1 (pos 0) = omega (arith, ints) in
    let x2 : to_z w64 (of_z w64 (get_or x 2 (pos 0))) ≡ get_or x 2 (pos 0) = omega (arith, ints) in
    let p0 = subst (HasAmong (get_or dims 0 (Range (pos 0) (pos 0) (pos 0) (pos 0))) c.in-Some.field-0-0 c.in-Some.last_plane) x0 c.in-Some.ensures in
    let p1 = subst (HasAmong (get_or dims 1 (Range (pos 0) (pos 0) (pos 0) (pos 0))) c.in-Some-ones_around.first_row c.in-Some-ones_around.last_row) x1 c.in-Some-ones_around.ensures in
    let p2 = subst (HasAmong (get_or dims 2 (Range (pos 0) (pos 0) (pos 0) (pos 0))) c.in-Some-ones_around-2.first_column c.in-Some-ones_around-2.last_column) x2 c.in-Some-ones_around-2.ensures in
    none_told c.args.region.now x (Range (pos 0) (pos 0) (pos 0) (pos 0)) c.in-Some.field-0-0 c.in-Some.last_plane c.in-Some-ones_around.first_row c.in-Some-ones_around.last_row c.in-Some-ones_around-2.first_column c.in-Some-ones_around-2.last_column
    c.see_three.ensures (omega arith) p0 p1 p2 (omega (arith, ints)) (omega (arith, ints)) (omega (arith, ints))

use Rattle.std.proofs.Common.{◌≡◌, pos, arith, to_z, of_z, w64}
use Rattle.std.proofs.lemmas.Int.{ints}
use Rattle.zpl_arrays.specs.of_zpl_region.declared.dims.Dim.TheVariants.{Range}
use Rattle.region_places.proofs.WalkLemmas.{first_is, lists_of, no_column, no_plane, no_row}
use Rattle.region_places.proofs.walks.least.Goals as goal

pub returns-then-last_plane-plane : goal.returns-then-last_plane-plane
returns-then-last_plane-plane c =
    no_plane c.args.region.now c.requires c.in-Some.plane c.in-Some.last_plane c.in-Some-ones.row c.in-Some-ones.last_row c.in-Some-ones-2.column c.in-Some-ones-2.last_column
    (lists_of c.args.region.now.dims (Range (pos 0) (pos 0) (pos 0) (pos 0)) c.in-Some.plane c.in-Some.last_plane c.in-Some-ones.row c.in-Some-ones.last_row c.in-Some-ones-2.column c.in-Some-ones-2.last_column c.see_three.ensures c.in-Some.ensures c.in-Some-ones.ensures c.in-Some-ones-2.ensures)
    (omega (arith, ints))

pub returns-then-last_row-row : goal.returns-then-last_row-row
returns-then-last_row-row c =
    no_row c.args.region.now c.requires c.in-Some.plane c.in-Some.last_plane c.in-Some-ones.row c.in-Some-ones.last_row c.in-Some-ones-2.column c.in-Some-ones-2.last_column
    (lists_of c.args.region.now.dims (Range (pos 0) (pos 0) (pos 0) (pos 0)) c.in-Some.plane c.in-Some.last_plane c.in-Some-ones.row c.in-Some-ones.last_row c.in-Some-ones-2.column c.in-Some-ones-2.last_column c.see_three.ensures c.in-Some.ensures c.in-Some-ones.ensures c.in-Some-ones-2.ensures)
    (omega (arith, ints))

pub returns-then-last_column-column : goal.returns-then-last_column-column
returns-then-last_column-column c =
    no_column c.args.region.now c.requires c.in-Some.plane c.in-Some.last_plane c.in-Some-ones.row c.in-Some-ones.last_row c.in-Some-ones-2.column c.in-Some-ones-2.last_column
    (lists_of c.args.region.now.dims (Range (pos 0) (pos 0) (pos 0) (pos 0)) c.in-Some.plane c.in-Some.last_plane c.in-Some-ones.row c.in-Some-ones.last_row c.in-Some-ones-2.column c.in-Some-ones-2.last_column c.see_three.ensures c.in-Some.ensures c.in-Some-ones.ensures c.in-Some-ones-2.ensures)
    (omega (arith, ints)) (omega (arith, ints))

pub returns : goal.returns
returns c =
    let p : to_z w64 (of_z w64 c.in-Some.plane) ≡ c.in-Some.plane = omega (arith, ints) in
    let q : to_z w64 (of_z w64 c.in-Some-ones.row) ≡ c.in-Some-ones.row = omega (arith, ints) in
    let r : to_z w64 (of_z w64 c.in-Some-ones-2.column) ≡ c.in-Some-ones-2.column = omega (arith, ints) in
    rw (p, q, r)
    (first_is c.args.region.now c.requires c.in-Some.plane c.in-Some.last_plane c.in-Some-ones.row c.in-Some-ones.last_row c.in-Some-ones-2.column c.in-Some-ones-2.last_column
    (lists_of c.args.region.now.dims (Range (pos 0) (pos 0) (pos 0) (pos 0)) c.in-Some.plane c.in-Some.last_plane c.in-Some-ones.row c.in-Some-ones.last_row c.in-Some-ones-2.column c.in-Some-ones-2.last_column c.see_three.ensures c.in-Some.ensures c.in-Some-ones.ensures c.in-Some-ones-2.ensures)
    (omega (arith, ints)) (omega (arith, ints)) (omega (arith, ints)))

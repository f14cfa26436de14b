use Rattle.std.proofs.Common.{◌≡◌, get_or, to_z, of_z, w64, pos, false, arith}
use Rattle.std.proofs.lemmas.Int.{ints}
use Rattle.zpl_region.specs.declared.dims.Dim.TheVariants.{Range}
use Rattle.grid_layout.proofs.PlaceLemmas.{no_first, no_second, no_third, everywhere}
use Rattle.grid_layout.proofs.sides.places_by.Goals as goal

pub place_between-planes-requires-clause-dim : goal.place_between-planes-requires-clause-dim
place_between-planes-requires-clause-dim c = c.requires.region.dims 0 _ (omega arith)

pub place_between-rows-requires-clause-dim : goal.place_between-rows-requires-clause-dim
place_between-rows-requires-clause-dim c = c.requires.region.dims 1 _ (omega arith)

pub place_between-columns-requires-clause-down : goal.place_between-columns-requires-clause-down
place_between-columns-requires-clause-down c =
    let l2 : to_z w64 (of_z w64 (get_or c.args.array.now.low 2 (pos 0))) ≡ get_or c.args.array.now.low 2 (pos 0) = omega (arith, ints) in
    rw l2 (c.requires.array.low 2 (pos 0) (omega arith))

pub place_between-columns-requires-clause-dim : goal.place_between-columns-requires-clause-dim
place_between-columns-requires-clause-dim c = c.requires.region.dims 2 _ (omega arith)

pub returns-then-is_bare-clause-places : goal.returns-then-is_bare-clause-places
returns-then-is_bare-clause-places c =
    let box = c.args.array.now in
    let v = c.components.result in
    let l0 : to_z w64 (of_z w64 (get_or box.low 0 (pos 0))) ≡ get_or box.low 0 (pos 0) = omega (arith, ints) in
    let h0 : to_z w64 (of_z w64 (get_or box.high 0 (pos 0))) ≡ get_or box.high 0 (pos 0) = omega (arith, ints) in
    let v0 : to_z w64 (of_z w64 (get_or v 0 (pos 0))) ≡ get_or v 0 (pos 0) = omega (arith, ints) in
    no_first c.args.from.now c.args.to.now box (record { rank = c.args.rank; dims = c.args.dims.now }) c.args.shift.now v (record { block = 0; first = pos 0; last = pos 0; is_empty = false }) (Range (pos 0) (pos 0) (pos 0) (pos 0))
    (omega arith) (omega arith) (record { dims = omega arith; low = omega arith; high = omega arith }) (omega arith) (omega arith) c.components.ensures
    c.place_between-planes.result c.is_bare.result (rw (l0, h0, v0) at c.place_between-planes.ensures) c.is_bare.ensures c.if-is_bare.true

pub returns-then-is_bare-2-clause-places : goal.returns-then-is_bare-2-clause-places
returns-then-is_bare-2-clause-places c =
    let box = c.args.array.now in
    let v = c.components.result in
    let l1 : to_z w64 (of_z w64 (get_or box.low 1 (pos 0))) ≡ get_or box.low 1 (pos 0) = omega (arith, ints) in
    let h1 : to_z w64 (of_z w64 (get_or box.high 1 (pos 0))) ≡ get_or box.high 1 (pos 0) = omega (arith, ints) in
    let v1 : to_z w64 (of_z w64 (get_or v 1 (pos 0))) ≡ get_or v 1 (pos 0) = omega (arith, ints) in
    no_second c.args.from.now c.args.to.now box (record { rank = c.args.rank; dims = c.args.dims.now }) c.args.shift.now v (record { block = 0; first = pos 0; last = pos 0; is_empty = false }) (Range (pos 0) (pos 0) (pos 0) (pos 0))
    (omega arith) (omega arith) (record { dims = omega arith; low = omega arith; high = omega arith }) (omega arith) (omega arith) c.components.ensures
    c.place_between-rows.result c.is_bare-2.result (rw (l1, h1, v1) at c.place_between-rows.ensures) c.is_bare-2.ensures c.if-is_bare-2.true

pub returns-then-is_bare-3-clause-places : goal.returns-then-is_bare-3-clause-places
returns-then-is_bare-3-clause-places c =
    let box = c.args.array.now in
    let v = c.components.result in
    let l2 : to_z w64 (of_z w64 (get_or box.low 2 (pos 0))) ≡ get_or box.low 2 (pos 0) = omega (arith, ints) in
    let h2 : to_z w64 (of_z w64 (get_or box.high 2 (pos 0))) ≡ get_or box.high 2 (pos 0) = omega (arith, ints) in
    let v2 : to_z w64 (of_z w64 (get_or v 2 (pos 0))) ≡ get_or v 2 (pos 0) = omega (arith, ints) in
    no_third c.args.from.now c.args.to.now box (record { rank = c.args.rank; dims = c.args.dims.now }) c.args.shift.now v (record { block = 0; first = pos 0; last = pos 0; is_empty = false }) (Range (pos 0) (pos 0) (pos 0) (pos 0))
    (omega arith) (omega arith) (record { dims = omega arith; low = omega arith; high = omega arith }) (omega arith) (omega arith) c.components.ensures
    c.place_between-columns.result c.is_bare-3.result (rw (l2, h2, v2) at c.place_between-columns.ensures) c.is_bare-3.ensures c.if-is_bare-3.true

pub returns-clause-places : goal.returns-clause-places
returns-clause-places c =
    let box = c.args.array.now in
    let v = c.components.result in
    let l0 : to_z w64 (of_z w64 (get_or box.low 0 (pos 0))) ≡ get_or box.low 0 (pos 0) = omega (arith, ints) in
    let h0 : to_z w64 (of_z w64 (get_or box.high 0 (pos 0))) ≡ get_or box.high 0 (pos 0) = omega (arith, ints) in
    let v0 : to_z w64 (of_z w64 (get_or v 0 (pos 0))) ≡ get_or v 0 (pos 0) = omega (arith, ints) in
    let l1 : to_z w64 (of_z w64 (get_or box.low 1 (pos 0))) ≡ get_or box.low 1 (pos 0) = omega (arith, ints) in
    let h1 : to_z w64 (of_z w64 (get_or box.high 1 (pos 0))) ≡ get_or box.high 1 (pos 0) = omega (arith, ints) in
    let v1 : to_z w64 (of_z w64 (get_or v 1 (pos 0))) ≡ get_or v 1 (pos 0) = omega (arith, ints) in
    let l2 : to_z w64 (of_z w64 (get_or box.low 2 (pos 0))) ≡ get_or box.low 2 (pos 0) = omega (arith, ints) in
    let h2 : to_z w64 (of_z w64 (get_or box.high 2 (pos 0))) ≡ get_or box.high 2 (pos 0) = omega (arith, ints) in
    let v2 : to_z w64 (of_z w64 (get_or v 2 (pos 0))) ≡ get_or v 2 (pos 0) = omega (arith, ints) in
    everywhere c.args.from.now c.args.to.now box (record { rank = c.args.rank; dims = c.args.dims.now }) c.args.shift.now v (record { block = 0; first = pos 0; last = pos 0; is_empty = false }) (Range (pos 0) (pos 0) (pos 0) (pos 0))
    (omega arith) (omega arith) (record { dims = omega arith; low = omega arith; high = omega arith }) (omega arith) (omega arith) c.components.ensures
    c.place_between-planes.result c.place_between-rows.result c.place_between-columns.result c.is_bare.result c.is_bare-2.result c.is_bare-3.result
    (rw (l0, h0, v0) at c.place_between-planes.ensures) (rw (l1, h1, v1) at c.place_between-rows.ensures) (rw (l2, h2, v2) at c.place_between-columns.ensures)
    c.is_bare.ensures c.is_bare-2.ensures c.is_bare-3.ensures c.if-is_bare.false c.if-is_bare-2.false c.if-is_bare-3.false

pub place_between-planes-requires-clause-mine : goal.place_between-planes-requires-clause-mine
place_between-planes-requires-clause-mine c = c.requires.mine 0 _ (omega arith)

pub place_between-planes-requires-clause-other : goal.place_between-planes-requires-clause-other
place_between-planes-requires-clause-other c = c.requires.others 0 _ (omega arith)

pub place_between-planes-requires-clause-down : goal.place_between-planes-requires-clause-down
place_between-planes-requires-clause-down c =
    let same : to_z w64 (of_z w64 (get_or c.args.array.now.low 0 (pos 0))) ≡ get_or c.args.array.now.low 0 (pos 0) = omega (arith, ints) in
    rw same (c.requires.array.low 0 (pos 0) (omega arith))

pub place_between-planes-requires-clause-up : goal.place_between-planes-requires-clause-up
place_between-planes-requires-clause-up c =
    let same : to_z w64 (of_z w64 (get_or c.args.array.now.high 0 (pos 0))) ≡ get_or c.args.array.now.high 0 (pos 0) = omega (arith, ints) in
    rw same (c.requires.array.high 0 (pos 0) (omega arith))

pub place_between-rows-requires-clause-mine : goal.place_between-rows-requires-clause-mine
place_between-rows-requires-clause-mine c = c.requires.mine 1 _ (omega arith)

pub place_between-rows-requires-clause-other : goal.place_between-rows-requires-clause-other
place_between-rows-requires-clause-other c = c.requires.others 1 _ (omega arith)

pub place_between-rows-requires-clause-down : goal.place_between-rows-requires-clause-down
place_between-rows-requires-clause-down c =
    let same : to_z w64 (of_z w64 (get_or c.args.array.now.low 1 (pos 0))) ≡ get_or c.args.array.now.low 1 (pos 0) = omega (arith, ints) in
    rw same (c.requires.array.low 1 (pos 0) (omega arith))

pub place_between-rows-requires-clause-up : goal.place_between-rows-requires-clause-up
place_between-rows-requires-clause-up c =
    let same : to_z w64 (of_z w64 (get_or c.args.array.now.high 1 (pos 0))) ≡ get_or c.args.array.now.high 1 (pos 0) = omega (arith, ints) in
    rw same (c.requires.array.high 1 (pos 0) (omega arith))

pub place_between-columns-requires-clause-mine : goal.place_between-columns-requires-clause-mine
place_between-columns-requires-clause-mine c = c.requires.mine 2 _ (omega arith)

pub place_between-columns-requires-clause-other : goal.place_between-columns-requires-clause-other
place_between-columns-requires-clause-other c = c.requires.others 2 _ (omega arith)

pub place_between-columns-requires-clause-up : goal.place_between-columns-requires-clause-up
place_between-columns-requires-clause-up c =
    let same : to_z w64 (of_z w64 (get_or c.args.array.now.high 2 (pos 0))) ≡ get_or c.args.array.now.high 2 (pos 0) = omega (arith, ints) in
    rw same (c.requires.array.high 2 (pos 0) (omega arith))

pub place_between-planes-requires-clause-stored : goal.place_between-planes-requires-clause-stored
place_between-planes-requires-clause-stored c = (c.requires.array.region.dims 0 _ (omega arith)).1

pub place_between-rows-requires-clause-stored : goal.place_between-rows-requires-clause-stored
place_between-rows-requires-clause-stored c = (c.requires.array.region.dims 1 _ (omega arith)).1

pub place_between-columns-requires-clause-stored : goal.place_between-columns-requires-clause-stored
place_between-columns-requires-clause-stored c = (c.requires.array.region.dims 2 _ (omega arith)).1

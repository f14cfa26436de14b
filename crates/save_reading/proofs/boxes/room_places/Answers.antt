use Rattle.std.proofs.Common.{◌≡◌, ◌∙◌, length, map, take, sym, ap, arith, subst}
use Rattle.std.specs.Prelude.{Some, IsTrue}
use Rattle.grid_meaning.specs.State.{IsRoom}
use Rattle.grid_save.specs.Written.{box_dim}
use Rattle.zpl_region.specs.declared.regions.Region.{Region}
use Rattle.save_reading.proofs.BoxLemmas.{room_only, room_right}
use Rattle.save_reading.proofs.boxes.room_places.Goals as goal

pub returns-then-is_room-clause-found : goal.returns-then-is_room-clause-found
returns-then-is_room-clause-found c = λ other is told.
    let none = c.no_places-none.result in
    let unlike : c.args.sides.now ≡ map box_dim (take none.rank none.dims) → ⊥ =
    λ same. let h : IsTrue c.are_sides.result = c.are_sides.ensures.1 (same ∙ ap (map box_dim) (sym c.front.ensures)) in absurd cc in
    ap Some (sym (room_only c.args._code.now c.args.p c.args.row.now c.args.sides.now none c.box_with-places.result
    c.no_places-none.ensures.places unlike c.box_with-places.ensures.same c.is_room.ensures.boxes other is told).1)

pub returns-then-is_room-clause-right : goal.returns-then-is_room-clause-right
returns-then-is_room-clause-right c =
    let none = c.no_places-none.result in
    let unlike : c.args.sides.now ≡ map box_dim (take none.rank none.dims) → ⊥ =
    λ same. let h : IsTrue c.are_sides.result = c.are_sides.ensures.1 (same ∙ ap (map box_dim) (sym c.front.ensures)) in absurd cc in
    let n : length c.args.sides.now ≡ c.args.row.now.rank = omega arith in
    room_right c.args._code.now c.args.p c.args.row.now c.args.sides.now none c.box_with-places.result
    c.no_places-none.ensures.places unlike c.box_with-places.ensures.same c.is_room.ensures.boxes n (c.is_room.ensures.room.0 c.if-is_room.true)

pub returns-else-is_room-clause-found : goal.returns-else-is_room-clause-found
returns-else-is_room-clause-found c = λ other is told.
    let none = c.no_places-none.result in
    let unlike : c.args.sides.now ≡ map box_dim (take none.rank none.dims) → ⊥ =
    λ same. let h : IsTrue c.are_sides.result = c.are_sides.ensures.1 (same ∙ ap (map box_dim) (sym c.front.ensures)) in absurd cc in
    let only = room_only c.args._code.now c.args.p c.args.row.now c.args.sides.now none c.box_with-places.result
    c.no_places-none.ensures.places unlike c.box_with-places.ensures.same c.is_room.ensures.boxes other is told in
    let h : IsTrue c.is_room.result = c.is_room.ensures.room.1 (subst (λ (r : Region). IsRoom c.args._code.now c.args.p c.args.row.now r) only.1 only.0) in
    absurd cc

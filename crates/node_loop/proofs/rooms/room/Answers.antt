use Rattle.std.proofs.Common.{◌≡◌, sym, ◌∙◌, rules}
use Rattle.std.specs.Prelude.{Some, slice_get}
use Rattle.node_loop.proofs.TurnLemmas.{is_slot, row_ranked, store_there}
use Rattle.node_loop.proofs.rooms.room.Goals as goal

pub own_room-places-requires-clause-slot : goal.own_room-places-requires-clause-slot
own_room-places-requires-clause-slot c =
    is_slot c.args.code.now c.args.p c.args.local.now c.args.slot c.in-Some.region c.requires.ready (sym c.slot.ensures ∙ c.in-Some.is)

pub own_room-places-requires-clause-above : goal.own_room-places-requires-clause-above
own_room-places-requires-clause-above c =
    let found : slice_get c.args.code.now.arrays c.args.array ≡ Some c.in-Some-get.row.now = search rules in
    (row_ranked c.args.code.now c.args.array c.in-Some-get.row.now c.tables.ensures.fits found).0

pub own_room-places-requires-clause-below : goal.own_room-places-requires-clause-below
own_room-places-requires-clause-below c =
    let found : slice_get c.args.code.now.arrays c.args.array ≡ Some c.in-Some-get.row.now = search rules in
    (row_ranked c.args.code.now c.args.array c.in-Some-get.row.now c.tables.ensures.fits found).1

pub make_places-requires-clause-there : goal.make_places-requires-clause-there
make_places-requires-clause-there c =
    let found : slice_get c.args.code.now.arrays c.args.array ≡ Some c.in-Some-get.row.now = search rules in
    store_there c.args.code.now c.args.p c.args.local.now c.args.array c.in-Some-get.row.now c.requires.ready found

use Rattle.std.proofs.Common.{◌<◌, [], length, get_or, sym, subst}
use Rattle.std.proofs.lemmas.Option.{slice_get_within, get_or_from_slice_get}
use Rattle.reduce_plan.specs.of_zpl_region.declared.regions.Region.{Region}
use Rattle.reduce_plan.specs.of_zpl_region.Region.{IsRegion, members}
use Rattle.grid_meaning.specs.of_grid_layout.Layout.{Arrangement}
use Rattle.grid_meaning.specs.of_grid_layout.Piece.{piece_of}
use Rattle.grid_meaning.specs.Exchange.{places_of}
use Rattle.grid_meaning.specs.Stored.{box_number}
use Rattle.node_stages.specs.Slots.{at_slots}
use Rattle.node_stages.proofs.PieceLemmas.{slot_there, IsRegion-slot, box_there, grid_count, places_are, some_places}
use Rattle.node_stages.proofs.exchanges.item_senders.Goals as goal

pub bounds-slots-item : goal.bounds-slots-item
bounds-slots-item c =
    let there = slot_there c.args.code.now.slots c.args.slots.now c.args.item.now.slot c.requires.item.rank c.requires.slots c.requires.item.slot in
    slice_get_within c.args.slots.now c.args.item.now.slot there.0 there.1

pub owners_for-requires-clause-array : goal.owners_for-requires-clause-array
owners_for-requires-clause-array c =
    let below = (box_there c.args.code.now c.args.item.now c.requires.item).below in
    subst (λ n. n < length c.args.layout.now.boxes) (sym c.box_number-number.ensures)
    (subst (λ (a : Arrangement). box_number c.args.code.now c.args.item.now.array < length a.boxes) (sym c.requires.layout) below)

pub owners_for-requires-clause-receiver : goal.owners_for-requires-clause-receiver
owners_for-requires-clause-receiver c =
    subst (λ n. c.args.p < n) (sym (grid_count c.args.code.now c.args.layout.now c.requires.layout)) c.requires.processor

pub owners_for-requires-clause-region : goal.owners_for-requires-clause-region
owners_for-requires-clause-region c =
    let there = slot_there c.args.code.now.slots c.args.slots.now c.args.item.now.slot c.requires.item.rank c.requires.slots c.requires.item.slot in
    subst IsRegion (sym (get_or_from_slice_get c.args.slots.now c.args.item.now.slot there.0 _ there.1)) (IsRegion-slot _ there.0 there.2)

pub owners_for-requires-clause-shift : goal.owners_for-requires-clause-shift
owners_for-requires-clause-shift c = c.requires.item.shift.0

pub returns-clause-all : goal.returns-clause-all
returns-clause-all c = λ q below some.
    let there = slot_there c.args.code.now.slots c.args.slots.now c.args.item.now.slot c.requires.item.rank c.requires.slots c.requires.item.slot in
    let found : Region = get_or c.args.slots.now c.args.item.now.slot (record { rank = 0; dims = [] }) in
    c.owners_for.ensures.owners q (subst (λ n. q < n) (sym (grid_count c.args.code.now c.args.layout.now c.requires.layout)) below)
    (some_places (members (piece_of c.args.layout.now c.box_number-number.result q c.args.p found c.args.item.now.shift))
    (places_of c.args.code.now (at_slots c.args.slots.now) q c.args.p c.args.item.now)
    (places_are c.args.code.now c.args.layout.now c.args.slots.now q c.args.p c.args.item.now c.box_number-number.result found there.0 c.requires.layout
    c.box_number-number.ensures there.1 (get_or_from_slice_get c.args.slots.now c.args.item.now.slot there.0 _ there.1)) some)

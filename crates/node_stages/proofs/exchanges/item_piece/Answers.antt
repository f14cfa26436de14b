use Rattle.std.proofs.Common.{[], ◌<◌, sym, ◌∙◌, subst}
use Rattle.std.proofs.lemmas.Option.{slice_get_within}
use Rattle.node_stages.proofs.PieceLemmas.{asked, grid_count, slot_there}
use Rattle.node_stages.proofs.exchanges.item_piece.Goals as goal

pub bounds-slots-item : goal.bounds-slots-item
bounds-slots-item c =
    let there = slot_there c.args.code.now.slots c.args.slots.now c.args.item.now.slot c.requires.item.rank c.requires.slots c.requires.item.slot in
    slice_get_within c.args.slots.now c.args.item.now.slot there.0 there.1

pub places-requires-clause-array : goal.places-requires-clause-array
places-requires-clause-array c =
    (asked c.args.code.now c.args.layout.now c.args.slots.now c.args.item.now c.box_number-number.result (record { rank = 0; dims = [] }) c.requires.layout c.requires.slots c.requires.item c.box_number-number.ensures).array

pub places-requires-clause-region : goal.places-requires-clause-region
places-requires-clause-region c =
    (asked c.args.code.now c.args.layout.now c.args.slots.now c.args.item.now c.box_number-number.result _ c.requires.layout c.requires.slots c.requires.item c.box_number-number.ensures).sound

pub places-requires-clause-ranks : goal.places-requires-clause-ranks
places-requires-clause-ranks c =
    (asked c.args.code.now c.args.layout.now c.args.slots.now c.args.item.now c.box_number-number.result _ c.requires.layout c.requires.slots c.requires.item c.box_number-number.ensures).ranks

pub places-requires-clause-aligned : goal.places-requires-clause-aligned
places-requires-clause-aligned c =
    (asked c.args.code.now c.args.layout.now c.args.slots.now c.args.item.now c.box_number-number.result _ c.requires.layout c.requires.slots c.requires.item c.box_number-number.ensures).aligned

pub places-requires-clause-owner : goal.places-requires-clause-owner
places-requires-clause-owner c =
    subst (λ n. c.args.from < n) (sym (grid_count c.args.code.now c.args.layout.now c.requires.layout)) c.requires.owner

pub places-requires-clause-receiver : goal.places-requires-clause-receiver
places-requires-clause-receiver c =
    subst (λ n. c.args.to < n) (sym (grid_count c.args.code.now c.args.layout.now c.requires.layout)) c.requires.receiver

pub returns-clause-places : goal.returns-clause-places
returns-clause-places c =
    c.places.ensures.places
    ∙ (asked c.args.code.now c.args.layout.now c.args.slots.now c.args.item.now c.box_number-number.result _ c.requires.layout c.requires.slots c.requires.item c.box_number-number.ensures).same c.args.from c.args.to

use Rattle.std.proofs.Common.{[], ◌<◌, length, nat_lt, sym, ◌∙◌, ap, subst}
use Rattle.std.proofs.lemmas.Option.{slice_get_within}
use Rattle.node_stages.proofs.PieceLemmas.{asked, grid_count, slot_there}
use Rattle.node_stages.proofs.exchanges.has_piece.Goals as goal

pub bounds-slots-item : goal.bounds-slots-item
bounds-slots-item c =
    let there = slot_there c.args.code.now.slots c.args.slots.now c.args.item.now.slot c.requires.item.rank c.requires.slots c.requires.item.slot in
    slice_get_within c.args.slots.now c.args.item.now.slot there.0 there.1

pub has_places-requires-clause-array : goal.has_places-requires-clause-array
has_places-requires-clause-array c =
    (asked c.args.code.now c.args.layout.now c.args.slots.now c.args.item.now c.box_number-number.result (record { rank = 0; dims = [] }) c.requires.layout c.requires.slots c.requires.item c.box_number-number.ensures).array

pub has_places-requires-clause-region : goal.has_places-requires-clause-region
has_places-requires-clause-region c =
    (asked c.args.code.now c.args.layout.now c.args.slots.now c.args.item.now c.box_number-number.result _ c.requires.layout c.requires.slots c.requires.item c.box_number-number.ensures).sound

pub has_places-requires-clause-ranks : goal.has_places-requires-clause-ranks
has_places-requires-clause-ranks c =
    (asked c.args.code.now c.args.layout.now c.args.slots.now c.args.item.now c.box_number-number.result _ c.requires.layout c.requires.slots c.requires.item c.box_number-number.ensures).ranks

pub has_places-requires-clause-aligned : goal.has_places-requires-clause-aligned
has_places-requires-clause-aligned c =
    (asked c.args.code.now c.args.layout.now c.args.slots.now c.args.item.now c.box_number-number.result _ c.requires.layout c.requires.slots c.requires.item c.box_number-number.ensures).aligned

pub has_places-requires-clause-owner : goal.has_places-requires-clause-owner
has_places-requires-clause-owner c =
    subst (λ n. c.args.from < n) (sym (grid_count c.args.code.now c.args.layout.now c.requires.layout)) c.requires.owner

pub has_places-requires-clause-receiver : goal.has_places-requires-clause-receiver
has_places-requires-clause-receiver c =
    subst (λ n. c.args.to < n) (sym (grid_count c.args.code.now c.args.layout.now c.requires.layout)) c.requires.receiver

pub returns : goal.returns
returns c =
    c.has_places.ensures
    ∙ ap (λ places. nat_lt 0 (length places)) ((asked c.args.code.now c.args.layout.now c.args.slots.now c.args.item.now c.box_number-number.result _ c.requires.layout c.requires.slots c.requires.item c.box_number-number.ensures).same c.args.from c.args.to)

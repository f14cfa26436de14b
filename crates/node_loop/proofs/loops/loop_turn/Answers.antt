use Rattle.std.proofs.Common.{◌≡◌, ◌<◌, ◌≤◌, ◌^◌, length, ap, sym, ◌∙◌, subst, rules, arith}
use Rattle.std.specs.Prelude.{Some, slice_get}
use Rattle.std.proofs.lemmas.Option.{slice_get_within}
use Rattle.zpl_region.specs.Region.{members}
use Rattle.node_loop.proofs.TurnLemmas.{few_tuples, group_room, is_slot, looked_up}
use Rattle.node_loop.proofs.loops.loop_turn.Goals as goal

pub own_tuples-own-requires-clause-slot : goal.own_tuples-own-requires-clause-slot
own_tuples-own-requires-clause-slot c =
    let found : slice_get c.args.local.now.local.slots c.args.slot ≡ Some c.in-Some.region.now =
    ap (λ regions. slice_get regions c.args.slot) (sym c.slots.ensures)
    ∙ looked_up c.get.result c.slots.result.now c.args.slot c.in-Some.region c.get.ensures.lookup c.in-Some.is in
    is_slot c.args.code.now c.args.p c.args.local.now c.args.slot c.in-Some.region.now c.requires.ready found

pub nth-requires-clause-fits : goal.nth-requires-clause-fits
nth-requires-clause-fits c =
    let found : slice_get c.args.local.now.local.slots c.args.slot ≡ Some c.in-Some.region.now =
    ap (λ regions. slice_get regions c.args.slot) (sym c.slots.ensures)
    ∙ looked_up c.get.result c.slots.result.now c.args.slot c.in-Some.region c.get.ensures.lookup c.in-Some.is in
    few_tuples c.args.code.now c.args.p c.in-Some.region.now c.own_tuples-own.result
    (is_slot c.args.code.now c.args.p c.args.local.now c.args.slot c.in-Some.region.now c.requires.ready found)
    c.own_tuples-own.ensures.tuples

pub turn_at-requires-clause-log : goal.turn_at-requires-clause-log
turn_at-requires-clause-log c =
    let found : slice_get c.args.code.now.groups c.args.group ≡ Some c.in-Some-get.members.now = search rules in
    subst (λ members. length members ≤ c.args.local.now.room) (sym c.as_slice.ensures)
    (group_room c.args.code.now c.args.p c.args.local.now c.args.group c.in-Some-get.members.now c.requires.ready found)

pub turn_at-requires-clause-next : goal.turn_at-requires-clause-next
turn_at-requires-clause-next c =
    let own = c.own_tuples-own.result in
    let found : slice_get c.args.local.now.local.slots c.args.slot ≡ Some c.in-Some.region.now =
    ap (λ regions. slice_get regions c.args.slot) (sym c.slots.ensures)
    ∙ looked_up c.get.result c.slots.result.now c.args.slot c.in-Some.region c.get.ensures.lookup c.in-Some.is in
    let few : length (members own) < 2 ^ 64 =
    few_tuples c.args.code.now c.args.p c.in-Some.region.now own
    (is_slot c.args.code.now c.args.p c.args.local.now c.args.slot c.in-Some.region.now c.requires.ready found)
    c.own_tuples-own.ensures.tuples in
    let below : c.index.result < length (members own) =
    slice_get_within (members own) c.index.result c.in-Some-nth.index (sym c.nth.ensures ∙ c.in-Some-nth.is) in
    let same = c.index.ensures in
    omega (arith, same, below, few)

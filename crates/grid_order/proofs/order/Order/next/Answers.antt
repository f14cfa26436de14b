use Rattle.std.proofs.Common.{arith, ◌≤◌, ◌∙◌, sym, slice_get, drop, ap}
use Rattle.std.proofs.lemmas.Option.{slice_get_within}
use Rattle.grid_order.proofs.OrderLemmas.{at_place, first_turn, has_turn, item_done, left_behind}
use Rattle.grid_order.proofs.order.Order.next.Goals as goal

pub invariant_of-self-else-item-gt1 : goal.invariant_of-self-else-item-gt1
invariant_of-self-else-item-gt1 c =
    let items = c.self.inside.items.items in
    let read = (c.in_ok-item.ensures {u = tt}).lookup in
    let found = at_place items c.deref.result.now c.self.inside.at c.in_ok-item.field-0.now c.deref.ensures.value read.3.0 read.1 in
    record {
      within = omega (arith, slice_get_within items c.self.inside.at c.in_ok-item.field-0.now found);
      turns = left_behind (λ item. 1 ≤ item.times) items c.self.inside.at c.self.invariant.turns;
    }

pub returns-then-item-gt1-clause-next : goal.returns-then-item-gt1-clause-next
returns-then-item-gt1-clause-next c =
    let items = c.self.inside.items.items in
    let read = (c.in_ok-item.ensures {u = tt}).lookup in
    let found = at_place items c.deref.result.now c.self.inside.at c.in_ok-item.field-0.now c.deref.ensures.value read.3.0 read.1 in
    sym (ap (λ turns. slice_get turns 0) (sym c.self.view_is)
    ∙ first_turn items c.self.inside.at c.in_ok-item.field-0.now found (omega arith))

pub returns-else-item-gt1-clause-next : goal.returns-else-item-gt1-clause-next
returns-else-item-gt1-clause-next c =
    let items = c.self.inside.items.items in
    let read = (c.in_ok-item.ensures {u = tt}).lookup in
    let found = at_place items c.deref.result.now c.self.inside.at c.in_ok-item.field-0.now c.deref.ensures.value read.3.0 read.1 in
    sym (ap (λ turns. slice_get turns 0) (sym c.self.view_is)
    ∙ first_turn items c.self.inside.at c.in_ok-item.field-0.now found
    (has_turn items c.self.inside.at c.in_ok-item.field-0.now found c.self.invariant.turns))

pub returns-else-item-gt1-clause-rest : goal.returns-else-item-gt1-clause-rest
returns-else-item-gt1-clause-rest c =
    let items = c.self.inside.items.items in
    let read = (c.in_ok-item.ensures {u = tt}).lookup in
    let found = at_place items c.deref.result.now c.self.inside.at c.in_ok-item.field-0.now c.deref.ensures.value read.3.0 read.1 in
    let some = has_turn items c.self.inside.at c.in_ok-item.field-0.now found c.self.invariant.turns in
    item_done items c.self.inside.at c.in_ok-item.field-0.now found (omega arith) ∙ ap (drop 1) c.self.view_is

use Rattle.std.proofs.Common.{◌≡◌, ◌+◌, ◌∷◌, drop, drop-cons, get_or, [], subst, sym, ap, ◌∙◌, suc, arith}
use Rattle.std.specs.Prelude.{All}
use Rattle.std.proofs.lemmas.List.Elements.{All-cons}
use Rattle.grid_meaning.specs.of_node_form.declared.arrays.Item.{Item}
use Rattle.node_stages.proofs.known.one_slot.Goals as goal

pub loop-item-preserved : goal.loop-item-preserved
loop-item-preserved c = λ rest.
    let items = c.args.items.now in
    let i = c.loop-item.item-index in
    let item : Item = get_or items i (record { array = 0; slot = 0; shift = [] }) in
    let next : suc i ≡ i + 1 = omega arith in
    c.loop-item.invariant
    (subst (All (λ (it : Item). it.slot ≡ c.in_ok-slot.field-0.now.slot))
    (sym (drop-cons items i (record { array = 0; slot = 0; shift = [] }) c.loop-item-test.true ∙ ap (λ n. item ∷ drop n items) next))
    (All-cons (λ (it : Item). it.slot ≡ c.in_ok-slot.field-0.now.slot) item (drop (i + 1) items) c.if-item-slot.false rest))

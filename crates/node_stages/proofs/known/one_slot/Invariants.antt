use Rattle.std.proofs.Common.{◌≡◌, drop}
use Rattle.std.specs.Prelude.{All}
use Rattle.grid_meaning.specs.of_node_form.declared.arrays.Item.{Item}
use Rattle.node_stages.proofs.known.one_slot.Given as goal

abbrev pub invariant-loop-item : goal.invariant-loop-item
invariant-loop-item l =
    All (λ (item : Item). item.slot ≡ l.slot) (drop l.item-index l.items) → All (λ (item : Item). item.slot ≡ l.slot) l.items

use Rattle.std.proofs.Common.{◌≡◌, take, true}
use Rattle.std.specs.List.{list_all}
use Rattle.node_check.specs.Learn.{is_among}
use Rattle.std.specs.Prelude.{not}
use Rattle.code_parts.specs.Uses.{written_slots}
use Rattle.node_check.proofs.demands.leaves_items.Given as goal

abbrev pub invariant-loop-item : goal.invariant-loop-item
invariant-loop-item l =
    list_all (λ item. not (is_among (written_slots l.row) item.slot)) (take l.item-index l.items) ≡ true

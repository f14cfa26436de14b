use Rattle.std.proofs.Common.{◌≡◌, take, true}
use Rattle.std.specs.List.{list_all}
use Rattle.node_check.specs.Demand.{is_near}
use Rattle.node_check.proofs.demands.are_near.Given as goal

abbrev pub invariant-loop-item : goal.invariant-loop-item
invariant-loop-item l =
    list_all (λ item. is_near l.tables item.array item.shift) (take l.item-index l.items) ≡ true

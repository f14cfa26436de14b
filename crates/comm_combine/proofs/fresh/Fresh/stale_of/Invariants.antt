use Rattle.std.proofs.Common.{◌≡◌, take}
use Rattle.comm_combine.specs.Fresh.{is_fresh, stale_by}
use Rattle.comm_combine.proofs.fresh.Fresh.stale_of.Given as goal

abbrev pub invariant-loop-item : goal.invariant-loop-item
invariant-loop-item l =
    l.stale.items ≡ stale_by (is_fresh l.self) (take l.item-index l.items)

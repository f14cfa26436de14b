use Rattle.std.proofs.Common.{◌≡◌, map, take}
use Rattle.node_local.specs.Standing.{array_in}
use Rattle.node_local.proofs.starts.told_stores.Given as goal

abbrev pub invariant-loop-store : goal.invariant-loop-store
invariant-loop-store l = l.stores.items ≡ map array_in (take l.store-index l.told)

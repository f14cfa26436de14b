use Rattle.std.proofs.Common.{◌≡◌, take, true}
use Rattle.node_check.specs.Demand.{leaves_slots}
use Rattle.node_check.proofs.demands.leaves_slots.Given as goal

abbrev pub invariant-loop-exchange : goal.invariant-loop-exchange
invariant-loop-exchange l =
    leaves_slots l.tables (take l.exchange-index l.opened) l.row ≡ true

use Rattle.std.proofs.Common.{◌≡◌, take, false}
use Rattle.std.specs.List.{list_any}
use Rattle.node_check.specs.Demand.{tells_border}
use Rattle.node_check.proofs.asks.tell_border.Given as goal

abbrev pub invariant-loop-fact : goal.invariant-loop-fact
invariant-loop-fact l =
    list_any (tells_border l.number l.shift) (take l.fact-index l.facts) ≡ false

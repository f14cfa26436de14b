use Rattle.std.proofs.Common.{◌≡◌, take, false}
use Rattle.std.specs.List.{list_any}
use Rattle.node_check.specs.Demand.{tells_agree}
use Rattle.node_check.proofs.asks.tell_agree.Given as goal

abbrev pub invariant-loop-fact : goal.invariant-loop-fact
invariant-loop-fact l =
    list_any (tells_agree l.pair.kind l.pair.target l.pair.source) (take l.fact-index l.facts) ≡ false

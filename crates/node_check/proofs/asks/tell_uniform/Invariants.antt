use Rattle.std.proofs.Common.{◌≡◌, take, false}
use Rattle.std.specs.List.{list_any}
use Rattle.node_check.specs.Learn.{tells_uniform}
use Rattle.node_check.proofs.asks.tell_uniform.Given as goal

abbrev pub invariant-loop-fact : goal.invariant-loop-fact
invariant-loop-fact l =
    list_any (tells_uniform l.scalar) (take l.fact-index l.facts) ≡ false

use Rattle.std.proofs.Common.{◌≡◌, take, false}
use Rattle.std.specs.List.{list_any}
use Rattle.node_check.specs.Learn.{regions_of}
use Rattle.zpl_arrays.specs.Border.{border_conforms}
use Rattle.node_check.proofs.asks.conforms_border.Given as goal

abbrev pub invariant-loop-fact : goal.invariant-loop-fact
invariant-loop-fact l =
    list_any (border_conforms l.shift) (regions_of (take l.fact-index l.facts) l.number) ≡ false

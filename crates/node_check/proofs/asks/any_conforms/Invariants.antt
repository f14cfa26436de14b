use Rattle.std.proofs.Common.{◌≡◌, take, false}
use Rattle.std.specs.List.{list_any}
use Rattle.node_check.specs.Learn.{regions_of}
use Rattle.node_form.specs.Control.{conforms}
use Rattle.node_check.proofs.asks.any_conforms.Given as goal

abbrev pub invariant-loop-fact : goal.invariant-loop-fact
invariant-loop-fact l =
    list_any (conforms l.pair.kind l.target) (regions_of (take l.fact-index l.facts) l.pair.source)
    ≡ false

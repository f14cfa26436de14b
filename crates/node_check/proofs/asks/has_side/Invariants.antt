use Rattle.std.proofs.Common.{◌≡◌, take, false}
use Rattle.std.specs.List.{list_any}
use Rattle.node_check.specs.Demand.{is_held, slots_made}
use Rattle.node_form.specs.Value.{unmoved}
use Rattle.node_check.proofs.asks.has_side.Given as goal

abbrev pub invariant-loop-fact : goal.invariant-loop-fact
invariant-loop-fact l =
    list_any (is_held l.tables l.facts l.array unmoved)
    (slots_made (take l.fact-index l.facts) l.side.form l.side.from l.side.shift) ≡ false

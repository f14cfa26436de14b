use Rattle.std.proofs.Common.{◌≡◌, take, false}
use Rattle.std.specs.List.{list_any}
use Rattle.node_check.specs.Alike.{is_fact}
use Rattle.node_check.proofs.alike.has_fact.Given as goal

abbrev pub invariant-loop-other : goal.invariant-loop-other
invariant-loop-other l =
    list_any (is_fact l.fact) (take l.other-index l.facts) ≡ false

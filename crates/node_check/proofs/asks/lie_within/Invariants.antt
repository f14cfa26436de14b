use Rattle.std.proofs.Common.{◌≡◌, take, false}
use Rattle.std.specs.List.{list_any}
use Rattle.node_check.specs.Learn.{regions_of}
use Rattle.std.specs.Prelude.{Some}
use Rattle.code_parts.specs.Needs.{is_within}
use Rattle.node_check.proofs.asks.lie_within.Given as goal

abbrev pub invariant-loop-fact : goal.invariant-loop-fact
invariant-loop-fact l =
    list_any (λ region. is_within l.place.shift region (Some l.row))
    (regions_of (take l.fact-index l.facts) l.place.slot) ≡ false

use Rattle.std.proofs.Common.{◌≡◌, take, true}
use Rattle.std.specs.List.{list_all}
use Rattle.node_check.specs.Demand.{has_place, places_of}
use Rattle.node_check.proofs.demands.has_group.Given as goal

abbrev pub invariant-loop-member : goal.invariant-loop-member
invariant-loop-member l =
    list_all (λ one. list_all (has_place l.tables l.facts l.slot) (places_of l.tables one))
    (take l.member-index l.member-items) ≡ true

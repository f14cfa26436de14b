use Rattle.std.proofs.Common.{◌-◌, length}
use Rattle.grid_meaning.specs.Delivery.{border_targets}
use Rattle.node_stages.proofs.WalkLemmas.{Walked, is_partner}
use Rattle.node_stages.proofs.edges.nth_edge_sender.Given as goal

abbrev pub invariant-loop-q : goal.invariant-loop-q
invariant-loop-q l = Walked (is_partner l.p (λ q. length (border_targets l.code l.kind l.region l.shift q l.p))) l.count l.q l.left l.place

abbrev pub decreases-loop-q : goal.decreases-loop-q
decreases-loop-q l = l.count - l.q

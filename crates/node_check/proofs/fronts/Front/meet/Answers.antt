use Rattle.std.specs.List.{list_any}
use Rattle.std.proofs.lemmas.List.Elements.{All-filter, All-same}
use Rattle.node_check.specs.Alike.{is_fact}
use Rattle.node_check.specs.Front.{HasRegion, shared_facts}
use Rattle.node_check.proofs.fronts.Front.meet.Goals as goal

pub invariant_of-self : goal.invariant_of-self
invariant_of-self c =
    All-same HasRegion c.in_ok-shared.shared.items
    (shared_facts c.as_slice.result.now c.as_slice-2.result.now) c.in_ok-shared.ensures
    (All-filter (λ fact. list_any (is_fact fact) c.as_slice-2.result.now) HasRegion
    c.as_slice.result.now
    (All-same HasRegion c.as_slice.result.now c.self.inside.facts.items c.as_slice.ensures.value
    c.self.invariant))

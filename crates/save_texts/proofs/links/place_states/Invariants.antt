use Rattle.std.specs.Vec.Iter.{into_iter_items}
use Rattle.save_texts.proofs.LinkSteps.{PlacesOn}
use Rattle.save_texts.proofs.links.place_states.Given as goal

abbrev pub invariant-loop-state : goal.invariant-loop-state
invariant-loop-state l = PlacesOn l.from l.fn.count (into_iter_items l.state-iterator) l.fn.states.items l.locals l.links

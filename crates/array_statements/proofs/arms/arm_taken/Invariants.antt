use Rattle.array_places.specs.View.{place_of}
use Rattle.array_statements.proofs.ChoiceLemmas.{Left}
use Rattle.array_statements.proofs.arms.arm_taken.Given as goal

abbrev pub invariant-loop-number : goal.invariant-loop-number
invariant-loop-number l = Left (place_of l.place) l.store l.at l.arms l.number

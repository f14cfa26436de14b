use Rattle.std.proofs.Common.{◌≡◌, [], replicate}
use Rattle.lower_regions.specs.of_lower_draft.Drafted.{grown}
use Rattle.lower_operators.proofs.CopyLemmas.{having}
use Rattle.lower_operators.proofs.wrapping.add_slots.Given as goal

abbrev pub decreases-loop-left : goal.decreases-loop-left
decreases-loop-left l = l.left

abbrev pub invariant-loop-left : goal.invariant-loop-left
invariant-loop-left l =
    grown l.draft (having (replicate l.left l.rank) [])
    ≡ grown l.initial.draft (having (replicate l.count l.rank) [])

use Rattle.std.proofs.Common.{◌≡◌, take}
use Rattle.comm_needs.specs.Needs.{with_needed}
use Rattle.comm_needs.proofs.groups.add_needs_of.Given as goal

abbrev pub invariant-loop-word : goal.invariant-loop-word
invariant-loop-word l =
    l.items ≡ with_needed l.slot l.initial.items (take l.word-index l.word-items)

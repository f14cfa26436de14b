use Rattle.std.proofs.Common.{◌≡◌, drop, map}
use Rattle.lower_frames.specs.Openings.{regions_pushed}
use Rattle.lower_frames.proofs.openings.push_regions.Given as goal

abbrev pub invariant-loop-entry : goal.invariant-loop-entry
invariant-loop-entry l =
    regions_pushed l.draft (map (λ entry. entry.1) (drop l.entry-index l.entry-items))
    ≡ regions_pushed l.initial.draft (map (λ entry. entry.1) l.entry-items)

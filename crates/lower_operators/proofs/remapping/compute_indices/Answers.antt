use Rattle.std.proofs.Common.{map}
use Rattle.lower_regions.specs.of_lower_draft.Inline.{member_of}
use Rattle.lower_regions.specs.of_lower_places.View.{slotted_of}
use Rattle.lower_operators.proofs.RemapLemmas.{indices-grown}
use Rattle.lower_operators.proofs.remapping.compute_indices.Goals as goal

pub returns : goal.returns
returns c =
    indices-grown c.args.numbers.now c.args.line (slotted_of c.args.over.now) c.args.draft.now
    c.add_indices.new.draft c.push.new.self c.args.indices.items
    (map member_of c.in_ok-group.group.items) c.in_ok-group.ensures.rooms
    c.in_ok-group.ensures.group c.in_ok-push.ensures

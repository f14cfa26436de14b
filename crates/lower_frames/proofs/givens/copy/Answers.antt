use Rattle.std.proofs.Common.{map}
use Rattle.lower_draft.specs.Inline.{member_of}
use Rattle.lower_places.specs.Numbers.{stored_of}
use Rattle.lower_frames.proofs.FrameLemmas.{copy_with}
use Rattle.lower_frames.proofs.givens.copy.Goals as goal

pub returns-clause-copied : goal.returns-clause-copied
returns-clause-copied c =
    copy_with c.args.line c.in_ok-slot.slot c.in_ok-array.array (stored_of c.args.from)
    (map member_of c.in_ok-group.group.items) c.args.draft.now c.add_slot.new.self
    c.add_array.new.self c.push.new.self c.push-2.new.self c.in_ok-slot.ensures.number
    c.in_ok-slot.ensures.added c.in_ok-array.ensures.number c.in_ok-array.ensures.added
    c.in_ok-push.ensures c.in_ok-group.ensures c.in_ok-push-2.ensures

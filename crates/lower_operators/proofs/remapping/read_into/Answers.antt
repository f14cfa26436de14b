use Rattle.lower_regions.specs.of_lower_places.View.{slotted_of}
use Rattle.lower_operators.proofs.RemapLemmas.{read-grown}
use Rattle.lower_operators.proofs.remapping.read_into.Goals as goal

pub returns-clause-rows : goal.returns-clause-rows
returns-clause-rows c =
    let over = slotted_of c.args.over.now in
    read-grown c.args.draft.now c.add_room.new.draft c.push_plain.new.draft over.slot c.args.from
    c.in_ok-array.array over.flood c.args.parts c.in_ok-array.ensures.temp
    c.in_ok-array.ensures.room c.in_ok-push_plain.ensures

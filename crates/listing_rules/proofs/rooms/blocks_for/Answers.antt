use Rattle.std.proofs.Common.{◌≡◌, ◌∙◌}
use Rattle.listing_rules.specs.Room.{boxes_of}
use Rattle.listing_rules.proofs.RoomLemmas.{boxes_are}
use Rattle.listing_rules.proofs.rooms.blocks_for.Goals as goal

pub new-requires : goal.new-requires
new-requires c =
    let boxes : c.deref.result.now ≡ boxes_of c.args.tables.now.arrays = c.deref.ensures.value ∙ c.in_ok-boxes.ensures in
    rw boxes (boxes_are c.args.tables.now.arrays c.requires.three c.requires.arrays)

use Rattle.node_control.proofs.SlotLemmas.{slot_below}
use Rattle.node_control.proofs.rows.fix.Goals as goal

pub set_slot-requires : goal.set_slot-requires
set_slot-requires c =
    slot_below c.args.code.now.slots c.args.local.now.local.slots c.args.slot c.requires.fits.rank c.requires.can.slots c.requires.fits.fit.0

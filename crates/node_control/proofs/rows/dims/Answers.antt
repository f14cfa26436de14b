use Rattle.std.proofs.Common.{◌<◌, length, sym, subst}
use Rattle.node_local.specs.Workplace.{Workplace}
use Rattle.node_control.proofs.SlotLemmas.{slot_below}
use Rattle.node_control.proofs.rows.dims.Goals as goal

pub place-requires-clause-slot : goal.place-requires-clause-slot
place-requires-clause-slot c =
    subst (λ (w : Workplace). c.args.slot < length w.local.slots) (sym c.in-Some.ensures.same)
    (slot_below c.args.code.now.slots c.args.local.now.local.slots c.args.slot c.requires.fits.rank c.requires.can.slots c.requires.fits.fit.0)

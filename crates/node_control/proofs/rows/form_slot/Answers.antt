use Rattle.std.proofs.Common.{ap}
use Rattle.node_form.specs.Control.{formed_by, with_row, with_slot}
use Rattle.grid_meaning.specs.Turn.{registers_of}
use Rattle.node_control.proofs.MoveLemmas.{same_by}
use Rattle.node_control.proofs.SlotLemmas.{formed_steps, slot_below}
use Rattle.node_control.proofs.rows.form_slot.Goals as goal

pub place-requires-clause-slot : goal.place-requires-clause-slot
place-requires-clause-slot c =
    slot_below c.args.code.now.slots c.args.local.now.local.slots c.args.slot c.requires.fits.rank c.requires.can.slots c.requires.fits.fit.0

pub returns : goal.returns
returns c =
    let registers = registers_of c.args.local.now.local in
    let region = c.region_in-region.result in
    let made = formed_by c.args.form c.args.shift region in
    same_by (with_slot registers c.args.slot c.args.line made) _ c.args.local.now c.place.new.local
    (ap (λ found. with_row found (λ r. with_slot registers c.args.slot c.args.line (formed_by c.args.form c.args.shift r))) c.region_in-region.ensures.there)
    (c.place.ensures made (formed_steps c.args.form c.args.shift region c.region_in-region.ensures.region) c.formed.ensures)

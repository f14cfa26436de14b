use Rattle.std.proofs.Common.{◌≡◌, sym, ap, ◌∙◌, subst}
use Rattle.std.specs.Prelude.{Some, is_some}
use Rattle.zpl_region.specs.Region.{IsRegion}
use Rattle.node_control.proofs.SlotLemmas.{IsRegion-slot, slot_there}
use Rattle.node_control.proofs.regions.region_in.Goals as goal

pub unwrap-requires : goal.unwrap-requires
unwrap-requires c =
    let found = slot_there c.args.code.now.slots c.args.local.now.local.slots c.args.slot c.requires.slots c.requires.slot in
    ap is_some (c.slot.ensures ∙ found.1.found)

pub returns-clause-region : goal.returns-clause-region
returns-clause-region c =
    let found = slot_there c.args.code.now.slots c.args.local.now.local.slots c.args.slot c.requires.slots c.requires.slot in
    let both : Some found.0 ≡ Some c.unwrap.result = sym found.1.found ∙ (sym c.slot.ensures ∙ c.unwrap.ensures) in
    let same : found.0 ≡ c.unwrap.result = cc in
    subst IsRegion same (IsRegion-slot found.1.rank found.0 found.1.is_slot)

use Rattle.std.proofs.Common.{◌≡◌, sym, ap, ◌∙◌, subst}
use Rattle.std.specs.Prelude.{Some, is_some, slice_get}
use Rattle.zpl_region.specs.declared.regions.Region.{Region}
use Rattle.grid_meaning.specs.State.{IsSlot}
use Rattle.row_turn.proofs.StandLemmas.{slot_there}
use Rattle.row_progress.proofs.keepers.region_in.Goals as goal

pub unwrap-requires : goal.unwrap-requires
unwrap-requires c =
    let found = slot_there c.args.code.now.slots c.args.local.now.local.slots c.args.slot c.requires.slots c.requires.slot in
    ap is_some (c.slot.ensures ∙ found.1.found)

pub returns-clause-ranked : goal.returns-clause-ranked
returns-clause-ranked c =
    let found = slot_there c.args.code.now.slots c.args.local.now.local.slots c.args.slot c.requires.slots c.requires.slot in
    let both : Some found.0 ≡ Some c.unwrap.result = sym found.1.found ∙ (sym c.slot.ensures ∙ c.unwrap.ensures) in
    let same : found.0 ≡ c.unwrap.result = cc in
    subst (λ (r : Region). slice_get c.args.code.now.slots c.args.slot ≡ Some r.rank) same found.1.ranked

pub returns-clause-region : goal.returns-clause-region
returns-clause-region c =
    let found = slot_there c.args.code.now.slots c.args.local.now.local.slots c.args.slot c.requires.slots c.requires.slot in
    let both : Some found.0 ≡ Some c.unwrap.result = sym found.1.found ∙ (sym c.slot.ensures ∙ c.unwrap.ensures) in
    let same : found.0 ≡ c.unwrap.result = cc in
    subst (λ (r : Region). IsSlot r.rank r) same found.1.is_slot

use Rattle.std.proofs.Common.{◌≡◌, ap, sym, ◌∙◌}
use Rattle.std.specs.Prelude.{unwrap_or}
use Rattle.zpl_bind.specs.Tables.{found, listed}
use Rattle.lower_places.specs.RegionSlots.{slot_in}
use Rattle.lower_places.proofs.SlotLemmas.{slot-found}
use Rattle.lower_places.proofs.region_slots.RegionSlots.find.Goals as goal

pub returns : goal.returns
returns c =
    let text = c.args.name.now.text.now in
    c.unwrap_or.ensures
    ∙ ap (λ o. unwrap_or o 0) (c.find.ensures
    ∙ ap (λ entries. found entries text) c.self.invariant.numbered)
    ∙ slot-found _ text
    ∙ ap (λ names. slot_in names text) c.self.view_is

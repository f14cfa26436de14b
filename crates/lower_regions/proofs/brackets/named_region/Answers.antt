use Rattle.std.proofs.Common.{◌≡◌, ℕ, List, ap, sym, ◌∙◌}
use Rattle.zpl_tree.specs.View.{name_of}
use Rattle.zpl_bind.specs.Known.{known_in}
use Rattle.lower_places.specs.of_zpl_lowering.Bracket.{region_slot, standing}
use Rattle.lower_places.specs.RegionSlots.{slot_in}
use Rattle.lower_places.proofs.SlotLemmas.{slot-named}
use Rattle.lower_regions.proofs.brackets.named_region.Goals as goal

pub returns : goal.returns
returns c =
    let known = known_in c.args.place.now.setup.now.known.now in
    let name = name_of c.args.name.now in
    let slot : c.find.result ≡ region_slot known name =
    c.find.ensures
    ∙ ap (λ (names : List (List ℕ)). slot_in names name.text) c.requires.index.regions
    ∙ slot-named known name in
    ap (λ (k : ℕ). standing k c.declared_flood.result) slot
    ∙ ap (standing (region_slot known name)) c.declared_flood.ensures

use Rattle.std.proofs.Common.{◌≡◌, ℕ, List, ap, sym, ◌∙◌}
use Rattle.zpl_tree.specs.Syntax.{Rexpr}
use Rattle.zpl_tree.specs.View.{base_of, name_of}
use Rattle.zpl_tree.specs.declared.regions.RegionBase.{RegionBase}
use Rattle.zpl_bind.specs.Known.{known_in}
use Rattle.lower_places.specs.of_zpl_lowering.Statement.{base_slot}
use Rattle.lower_places.specs.RegionSlots.{slot_in}
use Rattle.lower_places.specs.View.{slotted_of}
use Rattle.lower_places.proofs.SlotLemmas.{slot-named}
use Rattle.lower_regions.proofs.prefixes.base_slot.Goals as goal

pub returns-in-Named : goal.returns-in-Named
returns-in-Named c = λ pre post.
    let known = known_in c.args.place.now.setup.now.known.now in
    let name = name_of c.in-Named.name in
    c.find.ensures
    ∙ ap (λ (names : List (List ℕ)). slot_in names name.text) c.requires.index.regions
    ∙ slot-named known name
    ∙ sym (ap (λ (base : RegionBase).
    base_slot known (slotted_of c.args.current.now) (Rexpr pre (base_of base) post)) c.in-Named.is)

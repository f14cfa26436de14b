use Rattle.std.proofs.Common.{◌≡◌, ℕ, List, ap, sym, ◌∙◌, map}
use Rattle.zpl_bind.specs.Tables.{listed}
use Rattle.lower_places.specs.RegionSlots.{slots_from}
use Rattle.lower_places.proofs.SlotLemmas.{computed-names, slot-names}
use Rattle.lower_places.proofs.region_slots.RegionSlots.of.Goals as goal

pub invariant_of-result : goal.invariant_of-result
invariant_of-result c =
    let texts = map (λ entry. entry.0) (listed c.args.known.now.regions) in
    record {
      finds = c.in_ok-table.ensures.table;
      numbered =
          c.in_ok-table.ensures.slots
          ∙ ap (slots_from 0)
          (sym (ap (map (λ (entry : List ℕ × ℕ). entry.0)) c.in_ok-table.ensures.slots
          ∙ slot-names 0 texts));
    }

pub returns : goal.returns
returns c =
    let texts = map (λ entry. entry.0) (listed c.args.known.now.regions) in
    ap (map (λ (entry : List ℕ × ℕ). entry.0)) c.in_ok-table.ensures.slots
    ∙ slot-names 0 texts
    ∙ computed-names (listed c.args.known.now.regions)

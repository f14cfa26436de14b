use Rattle.std.proofs.Common.{◌≡◌, ◌+◌, ◌≤◌, ap, ◌∙◌, arith, length, rules}
use Rattle.zpl_bind.specs.Tables.{listed}
use Rattle.lower_places.specs.RegionSlots.{slots_from, texts_of}
use Rattle.lower_places.proofs.SlotLemmas.{listed-texts, slots-end, slots-more}
use Rattle.lower_places.proofs.region_slots.slots_of.Goals as goal

pub loop-entry-preserved : goal.loop-entry-preserved
loop-entry-preserved c =
    let next : c.in_ok-slot.slot ≡ c.loop-entry.slot + 1 = search rules in
    record {
      finds = c.in_ok-add.ensures.table;
      rest =
          slots-more c.deref-entry-items.result.now c.loop-entry.entry-index _
          (listed c.loop-entry.table) (listed c.add.new.self) _ c.loop-entry.slot
          c.in_ok-slot.slot c.loop-entry-test.true next c.in_ok-add.ensures.added
          c.loop-entry.invariant.rest;
    }

pub returns-clause-slots : goal.returns-clause-slots
returns-clause-slots c =
    let entries = c.deref-entry-items.result.now in
    let past : length entries ≤ c.loop-entry.entry-index = omega arith in
    slots-end entries c.loop-entry.entry-index (listed c.loop-entry.table) _ c.loop-entry.slot past
    c.loop-entry.invariant.rest
    ∙ ap (slots_from 0) (ap texts_of c.deref-entry-items.ensures.value
    ∙ listed-texts c.args.regions.now.entries.items)

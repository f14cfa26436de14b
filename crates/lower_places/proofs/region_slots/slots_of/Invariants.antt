use Rattle.std.proofs.Common.{◌≡◌, ◌++◌, drop}
use Rattle.zpl_bind.specs.Tables.{IsTable, listed}
use Rattle.lower_places.specs.RegionSlots.{slots_from, texts_of}
use Rattle.lower_places.proofs.region_slots.slots_of.Given as goal

abbrev pub invariant-loop-entry : goal.invariant-loop-entry
invariant-loop-entry l = record {
  finds : IsTable l.table;
  rest : listed l.table ++ slots_from l.slot (texts_of (drop l.entry-index l.entry-items))
      ≡ slots_from 0 (texts_of l.entry-items);
}

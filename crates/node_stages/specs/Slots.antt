-- A state of which only the regions in its slots are looked at.
use Rattle.std.specs.Prelude.{List, [], None}
use Rattle.reduce_plan.specs.of_zpl_region.declared.regions.Region.{Region}
use Rattle.grid_meaning.specs.Local.{Local}

-- the state with these slots, at its first instruction: what a row's turns are depends on slots
-- alone, but for `remap`
abbrev pub at_slots : List Region → Local
at_slots slots = record {
  at = 0;
  made = 0;
  index = 0;
  member = 0;
  flag = None;
  ended = None;
  scalars = [];
  slots = slots;
  cells = [];
  stores = [];
  kept = [];
}

-- Where a processor stands, as its line `proc` says.
use Rattle.std.specs.Prelude.{ℕ, Option, Some, None, []}
use Rattle.node_form.specs.declared.instructions.Instr.{Instr}
use Rattle.node_form.specs.declared.instructions.Instr.TheVariants as instr
use Rattle.grid_meaning.specs.Local.{Local}
use Rattle.save_reading.specs.declared.places.Place.{Place}

-- the state of which nothing else is known yet
abbrev pub placed : Place → Local
placed place = record {
  at = place.at;
  made = place.made;
  index = place.index;
  member = place.member;
  flag = place.flag;
  ended = place.ended;
  scalars = [];
  slots = [];
  cells = [];
  stores = [];
  kept = [];
}

-- the slot and the group of a loop
abbrev pub loop_of : Instr → Option (ℕ × ℕ)
loop_of (instr.Loop slot group) = Some (slot, group)
loop_of row = None

use Rattle.std.proofs.Common.{◌≡◌, map, take}
use Rattle.std.specs.Prelude.{All}
use Rattle.grid_layout.specs.Layout.{IsArrayBox}
use Rattle.grid_meaning.specs.Stored.{box_of, stored}
use Rattle.code_layout.proofs.boxes.boxes_of.Given as goal

abbrev pub invariant-loop-i : goal.invariant-loop-i
invariant-loop-i l = record {
  boxes : l.boxes.items ≡ map box_of (stored (take l.i l.code.arrays));
  sound : All IsArrayBox l.boxes.items;
}

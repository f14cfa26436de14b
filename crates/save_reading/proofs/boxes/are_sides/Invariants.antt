use Rattle.std.proofs.Common.{◌≡◌, map, take}
use Rattle.grid_save.specs.Written.{box_dim}
use Rattle.save_reading.proofs.boxes.are_sides.Given as goal

abbrev pub invariant-loop-i : goal.invariant-loop-i
invariant-loop-i l = take l.i l.sides ≡ map box_dim (take l.i l.dims)

use Rattle.std.proofs.Common.{◌≡◌, ◌≤◌, length, take}
use Rattle.grid_meaning.specs.Stored.{stored}
use Rattle.node_stages.proofs.boxes.box_number.Given as goal

abbrev pub invariant-loop-i : goal.invariant-loop-i
invariant-loop-i l =
    record { counted : l.number ≡ length (stored (take l.i l.code.arrays)); few : l.number ≤ l.i }

use Rattle.std.proofs.Common.{◌≡◌, ◌+◌, ◌≤◌, length, drop}
use Rattle.save_reading.specs.of_grid_save.Reads.{told_kept}
use Rattle.state_reading.proofs.kept.told_count.Given as goal

abbrev pub invariant-loop-at : goal.invariant-loop-at
invariant-loop-at l = record {
  counted : length (told_kept (drop l.fn.from l.lines)) + l.fn.from ≡ length (told_kept (drop l.at l.lines)) + l.at;
  behind : l.fn.from ≤ l.at;
  inside : l.at ≤ length l.lines;
}

abbrev pub decreases-loop-at : goal.decreases-loop-at
decreases-loop-at l = length (drop l.at l.lines)

use Rattle.std.proofs.Common.{◌≡◌, ◌≤◌, length, map, drop}
use Rattle.node_local.specs.Standing.{entry_of}
use Rattle.row_progress.specs.Begun.{stands}
use Rattle.save_reading.specs.of_grid_save.Reads.{IsKeptLine, is_kept}
use Rattle.save_reading.proofs.ReadLemmas.{Going}
use Rattle.state_reading.proofs.kept.take_kept.Given as goal

abbrev pub invariant-loop-line : goal.invariant-loop-line
invariant-loop-line l = record {
  going : Going is_kept (IsKeptLine l.code l.p (stands l.fn.begun.local l.far)) (drop l.fn.from l.lines) (map entry_of l.kept.items) (drop l.at l.lines);
  inside : l.at ≤ length l.lines;
  same : l.begun ≡ l.fn.begun;
}

abbrev pub decreases-loop-line : goal.decreases-loop-line
decreases-loop-line l = length (drop l.at l.lines)

use Rattle.std.proofs.Common.{◌≡◌, ◌+◌, ◌≤◌, ◌++◌, length}
use Rattle.save_lines.specs.Line.{AreSavedLines, saved_text}
use Rattle.save_lines.proofs.texts.read_lines.Given as goal

abbrev pub invariant-loop-rest : goal.invariant-loop-rest
invariant-loop-rest l = record {
  lines_are : AreSavedLines l.lines.items;
  written : l.bytes ≡ saved_text l.lines.items ++ l.rest;
  few : length l.lines.items + length l.rest ≤ length l.bytes;
}

abbrev pub decreases-loop-rest : goal.decreases-loop-rest
decreases-loop-rest l = length l.rest

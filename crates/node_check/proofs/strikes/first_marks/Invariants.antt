use Rattle.std.proofs.Common.{◌≡◌, length}
use Rattle.node_check.specs.Strike.{AreMarks}
use Rattle.node_check.proofs.strikes.first_marks.Given as goal

abbrev pub invariant-loop-front : goal.invariant-loop-front
invariant-loop-front l = record {
  marks : AreMarks l.tables l.marks.items;
  many : length l.marks.items ≡ l.front-index;
}

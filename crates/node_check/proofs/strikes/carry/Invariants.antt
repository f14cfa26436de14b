use Rattle.std.proofs.Common.{◌≡◌, ◌+◌, length}
use Rattle.node_check.specs.Strike.{AreMarks, IsLostAt}
use Rattle.node_check.proofs.strikes.carry.Given as goal

abbrev pub invariant-loop-i : goal.invariant-loop-i
invariant-loop-i l = record {
  marks : AreMarks l.tables l.marks.items;
  current : IsLostAt l.tables l.i l.current;
  many : length l.marks.items ≡ length l.tables.code + 1;
}

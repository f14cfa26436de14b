use Rattle.std.proofs.Common.{◌≡◌, ◌+◌, length}
use Rattle.node_check.specs.Strike.{AreMarks}
use Rattle.node_check.proofs.strikes.carry_all.Given as goal

abbrev pub invariant-loop-turn : goal.invariant-loop-turn
invariant-loop-turn l = record {
  marks : AreMarks l.tables l.marks.items;
  many : length l.marks.items ≡ length l.tables.code + 1;
  same : length l.marks.items ≡ length l.initial.marks.items;
}

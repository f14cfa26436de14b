use Rattle.std.proofs.Common.{◌<◌, ◌+◌, drop, length}
use Rattle.std.specs.Prelude.{sum_by}
use Rattle.node_check.specs.Sound.{IsLarge}
use Rattle.node_check.proofs.checks.is_large.Given as goal

abbrev pub invariant-loop-i : goal.invariant-loop-i
invariant-loop-i l = record {
  large : 16384 < l.total + sum_by length (drop l.i l.tables.groups) → IsLarge l.tables;
  more : IsLarge l.tables → 16384 < l.total + sum_by length (drop l.i l.tables.groups);
}

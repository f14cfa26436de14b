use Rattle.std.proofs.Common.{◌≡◌, drop, length}
use Rattle.bound_check.specs.Writes.{all_noted, noted_from}
use Rattle.bound_check.proofs.writes.Writes.of.Given as goal

abbrev pub invariant-loop-i : goal.invariant-loop-i
invariant-loop-i l =
    noted_from l.writes (drop l.i l.tables.code)
    ≡ all_noted (length l.tables.slots) l.tables.code

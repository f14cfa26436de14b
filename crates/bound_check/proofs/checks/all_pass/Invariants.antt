use Rattle.std.proofs.Common.{◌≡◌, drop}
use Rattle.std.specs.List.{list_all}
use Rattle.bound_check.specs.Writes.{passes_within}
use Rattle.bound_check.proofs.checks.all_pass.Given as goal

abbrev pub invariant-loop-write : goal.invariant-loop-write
invariant-loop-write l =
    list_all (passes_within l.shift l.row) (drop l.write-index l.writes)
    ≡ list_all (passes_within l.shift l.row) l.writes

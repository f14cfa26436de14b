use Rattle.std.proofs.Common.{◌≡◌, drop}
use Rattle.node_check.specs.Verdict.{judged, no_verdict}
use Rattle.node_check.proofs.verdicts.judged.Given as goal

abbrev pub invariant-loop-i : goal.invariant-loop-i
invariant-loop-i l =
    judged l.tables l.fronts l.i (drop l.i l.tables.code) l.verdict
    ≡ judged l.tables l.fronts 0 l.tables.code no_verdict

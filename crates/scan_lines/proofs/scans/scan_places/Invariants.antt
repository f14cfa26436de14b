use Rattle.scan_lines.specs.Line.{IsScanned}
use Rattle.scan_lines.proofs.LoopLemmas.{IsLeft}
use Rattle.scan_lines.proofs.scans.scan_places.Given as goal

abbrev pub invariant-loop-i : goal.invariant-loop-i
invariant-loop-i l = record {
  done : IsScanned l.fold l.lines l.i l.initial.values l.kept l.values;
  left : IsLeft l.i l.initial.values l.values;
}

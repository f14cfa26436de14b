use Rattle.scan_plan.proofs.ScanLemmas.{AreFolds}
use Rattle.scan_plan.proofs.sums.totals.Given as goal

-- the folds of the lines over the first values
abbrev pub invariant-loop-i : goal.invariant-loop-i
invariant-loop-i l = AreFolds l.fold l.along l.block l.values l.totals.items l.i

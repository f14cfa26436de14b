use Rattle.grid_layout.specs.Layout.{laid_out}
use Rattle.scan_plan.proofs.ScanLemmas.{IsScanned}
use Rattle.scan_plan.proofs.scans.scan_block.Given as goal

-- the folds of the lines over the first values, from what stands before them, and the scan at their tuples
abbrev pub invariant-loop-i : goal.invariant-loop-i
invariant-loop-i l = IsScanned l.fold l.along (laid_out l.layout) l.p l.region l.all l.values l.so_far.items l.scanned.items l.i

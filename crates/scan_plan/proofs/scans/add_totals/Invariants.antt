use Rattle.scan_plan.proofs.GoneLemmas.{IsAdded}
use Rattle.scan_plan.proofs.scans.add_totals.Given as goal

-- the totals gone through are joined in
abbrev pub invariant-loop-total : goal.invariant-loop-total
invariant-loop-total l = IsAdded l.fold l.along l.own l.part l.totals l.initial.kept l.kept l.head l.total-index

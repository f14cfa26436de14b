use Rattle.grid_timetable.proofs.TraceLemmas.{IsTracing, left_of}
use Rattle.grid_timetable.proofs.chain.trace.Given as goal

abbrev pub invariant-loop-next : goal.invariant-loop-next
invariant-loop-next l = IsTracing l.stretches l.fn.last l.next l.into.items

abbrev pub decreases-loop-next : goal.decreases-loop-next
decreases-loop-next l = left_of l.next

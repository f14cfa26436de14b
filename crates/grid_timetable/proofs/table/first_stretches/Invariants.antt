use Rattle.grid_timetable.specs.Reading.{AreFirstStretches}
use Rattle.grid_timetable.proofs.table.first_stretches.Given as goal

abbrev pub invariant-loop-p : goal.invariant-loop-p
invariant-loop-p l = AreFirstStretches l.p l.stretches.items

use Rattle.grid_timetable_tests.specs.Playing.{IsFilled}
use Rattle.grid_timetable_tests.proofs.adding.fill.Given as goal

abbrev pub invariant-loop-move : goal.invariant-loop-move
invariant-loop-move l = IsFilled l.table

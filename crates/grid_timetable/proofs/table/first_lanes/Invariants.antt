use Rattle.grid_timetable.specs.Reading.{AreFirstLanes}
use Rattle.grid_timetable.proofs.table.first_lanes.Given as goal

abbrev pub invariant-loop-p : goal.invariant-loop-p
invariant-loop-p l = AreFirstLanes l.p l.lanes.items

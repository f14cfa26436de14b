use Rattle.std.proofs.Common.{drop}
use Rattle.grid_timetable_tests.specs.Playing.{MayPlay}
use Rattle.grid_timetable_tests.proofs.adding.add_all.Given as goal

-- the moves that are left may be added
abbrev pub invariant-loop-told : goal.invariant-loop-told
invariant-loop-told l = MayPlay l.table (drop l.told-index l.moves)

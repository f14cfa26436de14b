use Rattle.std.proofs.Common.{◌≡◌, take, drop, ◌++◌}
use Rattle.grid_meaning.specs.State.{placed}
use Rattle.row_progress.proofs.senders.place_for.Given as goal

abbrev pub invariant-loop-i : goal.invariant-loop-i
invariant-loop-i l = placed l.numbers l.number ≡ take l.i l.numbers ++ placed (drop l.i l.numbers) l.number

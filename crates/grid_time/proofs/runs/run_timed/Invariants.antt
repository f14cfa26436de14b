use Rattle.std.proofs.Common.{◌+◌, length}
use Rattle.grid_sim.specs.Run.{run_in}
use Rattle.grid_time.proofs.TimeLemmas.{IsTimedTo}
use Rattle.grid_time.proofs.runs.run_timed.Given as goal

abbrev pub invariant-turns : goal.invariant-turns
invariant-turns l =
    IsTimedTo (run_in l.fn.sim l.fn.order l.limit) l.fn.table l.sim l.order l.rounds l.table

abbrev pub decreases-turns : goal.decreases-turns
decreases-turns l = length l.order + l.rounds.left

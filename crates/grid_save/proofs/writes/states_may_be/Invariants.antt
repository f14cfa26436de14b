use Rattle.grid_save.proofs.OnwardLemmas.{AreSeen}
use Rattle.grid_save.proofs.writes.states_may_be.Given as goal

abbrev pub invariant-loop-p : goal.invariant-loop-p
invariant-loop-p l = AreSeen l.sim.code l.sim.grid.world.locals l.p

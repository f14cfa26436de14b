use Rattle.std.proofs.Common.{◌↔◌, subst, not}
use Rattle.std.specs.Prelude.{IsTrue}
use Rattle.grid_meaning.specs.Grid.{IsIdle}
use Rattle.grid_sim.specs.Simulation.{Simulation}
use Rattle.grid_sim.proofs.ReadLemmas.{idle_when}
use Rattle.grid_sim.proofs.sims.Sim.is_idle.Goals as goal

pub returns-then-all : goal.returns-then-all
returns-then-all c =
    subst (λ (s : Simulation). IsTrue (not c.all-then-all.result) ↔ IsIdle s.code s.capacity s.grid) c.self.view_is
    (idle_when c.self.inside.code c.self.inside.team c.self.inside.counts c.self.invariant.team (c.all.ensures.0 c.if-all.true)
    c.all-then-all.result c.all-then-all.ensures)

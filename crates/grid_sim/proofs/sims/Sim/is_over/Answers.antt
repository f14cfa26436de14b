use Rattle.std.proofs.Common.{◌↔◌, subst}
use Rattle.std.specs.Prelude.{IsTrue}
use Rattle.grid_meaning.specs.Grid.{IsOver}
use Rattle.grid_sim.specs.Simulation.{Simulation}
use Rattle.grid_sim.proofs.ReadLemmas.{over_marks}
use Rattle.grid_sim.proofs.sims.Sim.is_over.Goals as goal

pub returns : goal.returns
returns c =
    let marks = over_marks c.self.inside.code c.self.inside.team c.self.invariant.team in
    subst (λ (s : Simulation). IsTrue c.all.result ↔ IsOver s.grid) c.self.view_is
    (λ all. marks.0 (c.all.ensures.0 all), λ over. c.all.ensures.1 (marks.1 over))

use Rattle.std.proofs.Common.{ap, sym, ◌∙◌}
use Rattle.grid_layout.specs.Grid.{processors_of}
use Rattle.grid_layout.specs.Layout.{Arrangement}
use Rattle.grid_meaning.specs.Local.{processors}
use Rattle.grid_meaning.proofs.WorldLemmas.{processors_alike}
use Rattle.grid_sim.specs.Simulation.{Simulation}
use Rattle.grid_sim.proofs.sims.Sim.count.Goals as goal

pub returns-clause-count : goal.returns-clause-count
returns-clause-count c =
    c.count.ensures.count
    ∙ (ap processors_of (c.grid.ensures ∙ ap (λ (a : Arrangement). a.grid) c.self.invariant.layout)
    ∙ (sym (processors_alike c.self.inside.code.grid) ∙ ap (λ (s : Simulation). processors s.code) c.self.view_is))

pub returns-clause-silent : goal.returns-clause-silent
returns-clause-silent c = ap (λ (s : Simulation). s.grid.printed) (sym c.self.view_is)

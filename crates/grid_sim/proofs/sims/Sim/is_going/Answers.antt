use Rattle.std.proofs.Common.{◌≡◌, ◌∙◌, true, false, ap, not, subst, sym}
use Rattle.std.proofs.lemmas.Bool.{false≢true}
use Rattle.grid_runs.specs.Run.{IsStopped}
use Rattle.grid_sim.specs.Simulation.{Simulation}
use Rattle.grid_sim.proofs.ReadLemmas.{stopped_marks}
use Rattle.grid_sim.proofs.sims.Sim.is_going.Goals as goal

pub returns : goal.returns
returns c going stopped =
    let inside = subst (λ (s : Simulation). IsStopped s.code s.capacity s.grid) (sym c.self.view_is) stopped in
    let all : c.all.result ≡ true =
    c.all.ensures.1 (stopped_marks c.self.inside.code c.self.inside.team c.self.inside.counts c.self.invariant.team inside) in
    absurd (false≢true (sym (ap not all) ∙ going))

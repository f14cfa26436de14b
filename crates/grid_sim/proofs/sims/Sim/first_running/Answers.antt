use Rattle.std.proofs.Common.{◌≡◌, ◌∙◌, subst, sym, ap, arith, refl}
use Rattle.grid_layout.specs.Layout.{Arrangement}
use Rattle.grid_layout.specs.Grid.{processors_of}
use Rattle.grid_meaning.specs.Grid.{IsOver}
use Rattle.grid_meaning.specs.Local.{processors}
use Rattle.grid_meaning.proofs.WorldLemmas.{processors_alike}
use Rattle.grid_sim.specs.Simulation.{Simulation}
use Rattle.grid_runs.specs.Run.{IsFirstRunning}
use Rattle.grid_sim.proofs.ReadLemmas.{first_is, over_marks}
use Rattle.grid_sim.proofs.sims.Sim.first_running.Goals as goal

pub returns-in_err-first_unmarked-clause-none : goal.returns-in_err-first_unmarked-clause-none
returns-in_err-first_unmarked-clause-none c none =
    let marks = over_marks c.self.inside.code c.self.inside.team c.self.invariant.team in
    subst (λ (s : Simulation). IsOver s.grid) c.self.view_is (marks.0 (c.in_err-first_unmarked.ensures.none refl))

pub overflow_cast-result : goal.overflow_cast-result
overflow_cast-result c =
    let first = c.in_ok-first_unmarked.ensures.some in
    let many = c.self.invariant.team.marks.ended.many in
    let n : c.count-count.result ≡ processors c.self.inside.code =
    c.count-count.ensures.count
    ∙ (ap processors_of (c.grid.ensures ∙ ap (λ (a : Arrangement). a.grid) c.self.invariant.layout) ∙ sym (processors_alike c.self.inside.code.grid)) in
    omega (arith, first.there, many, n, c.count-count.ensures.few)

pub returns-clause-some : goal.returns-clause-some
returns-clause-some c =
    subst (λ (s : Simulation). IsFirstRunning s.grid c.in_ok-first_unmarked.field-0) c.self.view_is
    (first_is c.self.inside.code c.self.inside.team c.self.invariant.team c.in_ok-first_unmarked.field-0 _ refl c.in_ok-first_unmarked.ensures.some)

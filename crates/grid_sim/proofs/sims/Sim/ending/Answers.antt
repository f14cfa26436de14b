use Rattle.std.proofs.Common.{◌≡◌, ◌↔◌, ◌≤◌, ◌<◌, true, false, Some, length, map, subst, sym, ◌∙◌, ap, arith}
use Rattle.std.proofs.lemmas.List.{length-map}
use Rattle.grid_layout.specs.Layout.{Arrangement}
use Rattle.grid_layout.specs.Grid.{processors_of}
use Rattle.grid_meaning.specs.Grid.{EndsAs, IsOver}
use Rattle.grid_meaning.specs.Local.{processors}
use Rattle.grid_meaning.proofs.WorldLemmas.{processors_alike}
use Rattle.grid_sim.specs.Inside.{simulation_in}
use Rattle.grid_sim.specs.Processors.{state_of}
use Rattle.grid_sim.specs.Simulation.{Simulation}
use Rattle.grid_sim.proofs.ReadLemmas.{ends_as, first_at, over_marks, some_over}
use Rattle.grid_sim.proofs.TeamLemmas.{item_there}
use Rattle.grid_sim.proofs.sims.Sim.ending.Goals as goal

pub returns-then-not-all-clause-ends : goal.returns-then-not-all-clause-ends
returns-then-not-all-clause-ends c ending =
    let marks = over_marks c.self.inside.code c.self.inside.team c.self.invariant.team in (
      λ none. cc,
      λ ends.
          let over = subst (λ (s : Simulation). IsOver s.grid) (sym c.self.view_is) ends.over in
          let all : c.all.result ≡ true = c.all.ensures.1 (marks.1 over) in
          let not_all : c.all.result ≡ false = c.if-not-all.true in cc,
    )

pub returns-then-not-all-clause-told : goal.returns-then-not-all-clause-told
returns-then-not-all-clause-told c over =
    let marks = over_marks c.self.inside.code c.self.inside.team c.self.invariant.team in
    let grid_over = subst (λ (s : Simulation). IsOver s.grid) (sym c.self.view_is) over in
    sym c.if-not-all.true ∙ c.all.ensures.1 (marks.1 grid_over)

pub index-requires : goal.index-requires
index-requires c =
    let team = c.self.inside.team in
    let n : c.count-count.result ≡ processors c.self.inside.code =
    c.count-count.ensures.count
    ∙ (ap processors_of (c.grid.ensures ∙ ap (λ (a : Arrangement). a.grid) c.self.invariant.layout) ∙ sym (processors_alike c.self.inside.code.grid)) in
    let some : 0 < length team.locals.items = omega (arith, c.self.invariant.team.marks.states.many, n, c.count-count.ensures.some) in
    subst (λ k. 0 < k) (sym team.locals.ok.0) some

pub returns-clause-ends : goal.returns-clause-ends
returns-clause-ends c ending =
    let team = c.self.inside.team in
    let n : c.count-count.result ≡ processors c.self.inside.code =
    c.count-count.ensures.count
    ∙ (ap processors_of (c.grid.ensures ∙ ap (λ (a : Arrangement). a.grid) c.self.invariant.layout) ∙ sym (processors_alike c.self.inside.code.grid)) in
    let some : 0 < length team.locals.items = omega (arith, c.self.invariant.team.marks.states.many, n, c.count-count.ensures.some) in
    let there = item_there team.locals.items 0 c.index.result.now c.index.ensures some in
    let over = (over_marks c.self.inside.code team c.self.invariant.team).0 (c.all.ensures.0 c.if-not-all.false) in
    subst (λ (s : Simulation). (c.ending.result ≡ Some ending) ↔ EndsAs s.grid ending) c.self.view_is
    (ends_as (simulation_in c.self.inside.code team c.self.inside.counts).grid ending c.ending.result over
    (c.ending.ensures ∙ sym (first_at team.locals.items c.index.result.now there)))

pub returns-clause-told : goal.returns-clause-told
returns-clause-told c is_over =
    let team = c.self.inside.team in
    let n : c.count-count.result ≡ processors c.self.inside.code =
    c.count-count.ensures.count
    ∙ (ap processors_of (c.grid.ensures ∙ ap (λ (a : Arrangement). a.grid) c.self.invariant.layout) ∙ sym (processors_alike c.self.inside.code.grid)) in
    let some : 0 < length team.locals.items = omega (arith, c.self.invariant.team.marks.states.many, n, c.count-count.ensures.some) in
    let there = item_there team.locals.items 0 c.index.result.now c.index.ensures some in
    let over = (over_marks c.self.inside.code team c.self.invariant.team).0 (c.all.ensures.0 c.if-not-all.false) in
    let some_local : 1 ≤ length (map state_of team.locals.items) = omega (arith, length-map team.locals.items state_of, some) in
    some_over (map state_of team.locals.items) c.ending.result some_local
    (c.ending.ensures ∙ sym (first_at team.locals.items c.index.result.now there)) over

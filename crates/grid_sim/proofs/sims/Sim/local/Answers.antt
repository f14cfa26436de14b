use Rattle.std.proofs.Common.{◌<◌, sym, subst, length}
use Rattle.grid_meaning.specs.Local.{processors}
use Rattle.node_local.specs.Workplace.{IsReady}
use Rattle.grid_sim.specs.Simulation.{Simulation}
use Rattle.grid_sim.proofs.TeamLemmas.{item_there}
use Rattle.grid_sim.proofs.sims.Sim.local.Goals as goal

pub returns-clause-ready : goal.returns-clause-ready
returns-clause-ready c =
    let items = c.self.inside.team.locals.items in
    let here : c.args.p < processors c.self.inside.code = subst (λ (s : Simulation). c.args.p < processors s.code) (sym c.self.view_is) c.requires in
    let inside : c.args.p < length items = subst (λ n. c.args.p < n) (sym c.self.invariant.team.marks.states.many) here in
    subst (λ (s : Simulation). IsReady s.code c.args.p c.index.result.now) c.self.view_is
    (c.self.invariant.team.marks.states.ready c.args.p c.index.result.now (item_there items c.args.p c.index.result.now c.index.ensures inside))

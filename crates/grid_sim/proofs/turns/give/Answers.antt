use Rattle.std.proofs.Common.{sym, subst}
use Rattle.node_turn.specs.declared.steps.Traffic.TheVariants.{Quiet}
use Rattle.grid_sim.specs.Inside.{simulation_in}
use Rattle.grid_sim.specs.Simulation.{IsMade, IsTold, Simulation, turn_in}
use Rattle.grid_sim.proofs.GivenLemmas.{same_simulation}
use Rattle.grid_sim.proofs.TurnLemmas.{given_silent, told_on}
use Rattle.grid_sim.proofs.turns.give.Goals as goal

pub returns-then-move_alone-clause-made : goal.returns-then-move_alone-clause-made
returns-then-move_alone-clause-made g c =
    let code = c.args.code.now in
    let old = c.args.team.now in
    let moved = c.move_alone.ensures.moved c.if-move_alone.true in (
      given_silent code old c.move_alone.new.self c.args.counts.now c.counted.new.counts c.args.p Quiet _ moved c.counted.ensures.counted,
      subst (IsTold (turn_in (simulation_in code old c.args.counts.now) c.args.p)) (sym c.counted.ensures.told)
          (told_on code old c.move_alone.new.self c.args.counts.now c.args.p Quiet moved),
    )

pub returns-clause-made : goal.returns-clause-made
returns-clause-made g c =
    let code = c.args.code.now in
    let counts = c.args.counts.now in
    subst (λ (before : Simulation). IsMade before (simulation_in code c.give_any.new.team c.give_any.new.counts) c.args.p
    (g.O.Sink.tells c.args.out.now) (g.O.Sink.tells c.give_any.new.out) c.give_any.result)
    (same_simulation code c.args.team.now c.move_alone.new.self counts (c.move_alone.ensures.same c.if-move_alone.false))
    c.give_any.ensures.made

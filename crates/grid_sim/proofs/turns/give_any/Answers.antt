use Rattle.std.proofs.Common.{sym, subst}
use Rattle.zpl_io.specs.Sink.{Takes}
use Rattle.grid_sim.specs.Inside.{simulation_in}
use Rattle.grid_sim.specs.Processors.{AreSame, HaveMovedOn, HaveTurned, PrintsNext}
use Rattle.grid_sim.specs.Simulation.{IsTold, turn_in}
use Rattle.grid_sim.proofs.TurnLemmas.{given_printed, given_silent, prints_same, told_on, told_printed}
use Rattle.grid_sim.proofs.turns.give_any.Goals as goal

pub returns-in-Moved-clause-made : goal.returns-in-Moved-clause-made
returns-in-Moved-clause-made g c =
    let code = c.args.code.now in
    let old = c.args.team.now in
    let done = c.in-Moved.traffic in
    let m : HaveMovedOn code old c.turn.new.self c.args.p done =
    subst (HaveTurned code old c.turn.new.self c.args.p) c.in-Moved.is c.in_ok-traffic.ensures.turned in (
      given_silent code old c.turn.new.self c.args.counts.now c.counted.new.counts c.args.p done _ m c.counted.ensures.counted,
      subst (IsTold (turn_in (simulation_in code old c.args.counts.now) c.args.p)) (sym c.counted.ensures.told)
          (told_on code old c.turn.new.self c.args.counts.now c.args.p done m),
    )

pub returns-in_ok-put_piece-in-Prints-clause-made : goal.returns-in_ok-put_piece-in-Prints-clause-made
returns-in_ok-put_piece-in-Prints-clause-made g c =
    let code = c.args.code.now in
    let old = c.args.team.now in
    let mid = c.turn.new.self in
    let bytes = c.in-Prints.bytes in
    let next : PrintsNext code old c.args.p bytes × AreSame old mid =
    subst (HaveTurned code old mid c.args.p) c.in-Prints.is c.in_ok-traffic.ensures.turned in
    let printed = c.print.ensures.moved bytes (prints_same code old mid c.args.p bytes next.1 next.0) in
    let takes = subst (λ piece. Takes (g.O.Sink.tells c.args.out.now) piece (g.O.Sink.tells c.put_piece.new.sink)) c.as_slice.ensures
    c.in_ok-put_piece-in-Prints.ensures.ok in (
      given_printed code old mid c.print.new.self c.args.counts.now c.counted-in-Prints.new.counts c.args.p bytes _ _ next.1 next.0 printed
          c.counted-in-Prints.ensures.counted takes,
      subst (IsTold (turn_in (simulation_in code old c.args.counts.now) c.args.p)) (sym c.counted-in-Prints.ensures.told)
          (told_printed code old mid c.print.new.self c.args.counts.now c.args.p bytes next.1 printed),
    )

use Rattle.std.proofs.Common.{◌++◌, ◌∙◌, ap}
use Rattle.trace_call.proofs.LineLemmas.{line_told}
use Rattle.trace_call.proofs.turns.give_turn.Goals as goal

pub returns-in_ok-append_line-in-Ok : goal.returns-in_ok-append_line-in-Ok
returns-in_ok-append_line-in-Ok c =
    let made = c.in-Ok.ensures.made in (
      record { answer = c.in-Ok.told.turned; told = made.1.turned; grid = made.0.grid },
      c.in_ok-append_line-in-Ok.ensures
          ∙ ap (λ line. c.args.lines.now.items ++ line)
          (line_told c.args.sim.now c.args.p c.local-local.result.now.local c.local-local.ensures.state
          c.code.result.now c.code.ensures c.stage_of-stage.result c.stage_of-stage.ensures.stage
          c.counts-before.result c.counts-before.ensures c.at-at.result c.at-at.ensures
          c.turn_told.new.self made.0.grid c.links.result.now c.links.ensures c.words_there-taken.result
          c.words_there-taken.ensures c.in-Ok.told made.1 c.counts.result c.counts.ensures
          c.event_of-event.result c.event_of-event.ensures),
    )

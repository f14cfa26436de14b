use Rattle.std.proofs.Common.{sym, ◌∙◌}
use Rattle.grid_sim.proofs.PlaceLemmas.{rounds_next}
use Rattle.grid_sim.proofs.runs.next_turn.Goals as goal

pub returns-in-None-clause-next : goal.returns-in-None-clause-next
returns-in-None-clause-next c all limit k place =
    rounds_next all limit k c.args.order.now c.next.new.self c.args.rounds.now c.next-in-None.new.self c.next-in-None.result place
    (sym c.next.ensures.next ∙ c.in-None.is) c.next.ensures.rest c.next-in-None.ensures

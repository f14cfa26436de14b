use Rattle.node_turn.proofs.turns.turn_of.Goals as goal

pub returns-in_default-clause-turn : goal.returns-in_default-clause-turn
returns-in_default-clause-turn c = c.end_step.ensures c.args.links.now

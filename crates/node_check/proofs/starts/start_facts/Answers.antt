use Rattle.node_check.proofs.starts.start_facts.Goals as goal

pub returns-clause-regions : goal.returns-clause-regions
returns-clause-regions c = c.in_ok-start_slots.ensures.regions

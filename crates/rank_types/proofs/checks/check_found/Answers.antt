use Rattle.rank_types.proofs.checks.check_found.Goals as goal

pub check_text-requires-clause-distinct : goal.check_text-requires-clause-distinct
check_text-requires-clause-distinct c = c.requires.distinct.is

pub check_text-requires-clause-found : goal.check_text-requires-clause-found
check_text-requires-clause-found c = c.requires.found.is

pub returns : goal.returns
returns c = record { ok = c.check_text.ensures.ok; err = c.check_text.ensures.err }

use Rattle.lowering_checks.proofs.StandLemmas.{stands_from}
use Rattle.lowering_checks.proofs.laws.loops_stand_where_others_do.Goals as goal

pub returns : goal.returns
returns c = stands_from

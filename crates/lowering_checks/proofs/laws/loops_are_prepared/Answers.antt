use Rattle.lowering_checks.proofs.PreparedLemmas.{rows_prepared}
use Rattle.lowering_checks.proofs.laws.loops_are_prepared.Goals as goal

pub returns : goal.returns
returns c = rows_prepared

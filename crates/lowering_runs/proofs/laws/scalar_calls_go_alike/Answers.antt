use Rattle.lowering_runs.proofs.RoutineLemmas.{calls_agree}
use Rattle.lowering_runs.proofs.laws.scalar_calls_go_alike.Goals as goal

pub returns : goal.returns
returns c = calls_agree

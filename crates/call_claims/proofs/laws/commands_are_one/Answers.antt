use Rattle.call_claims.proofs.OneLemmas.{worded_once}
use Rattle.call_claims.proofs.laws.commands_are_one.Goals as goal

pub returns : goal.returns
returns c = worded_once

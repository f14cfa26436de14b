use Rattle.loop_runs.proofs.BroughtLemmas.{needs_are_brought}
use Rattle.loop_runs.proofs.needs_are_brought.Goals as goal

pub returns : goal.returns
returns c = needs_are_brought

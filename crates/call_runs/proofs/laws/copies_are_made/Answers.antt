use Rattle.call_runs.proofs.CopyLemmas.{copied}
use Rattle.call_runs.proofs.laws.copies_are_made.Goals as goal

pub returns : goal.returns
returns c = copied

use Rattle.meaning_runs.proofs.RunLemmas.{more_exact}
use Rattle.meaning_runs.proofs.laws.more_comes_of_loops.Goals as goal

pub returns : goal.returns
returns c = more_exact

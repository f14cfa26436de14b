use Rattle.row_runs.proofs.CounterLemmas.{tell_their_end}
use Rattle.row_runs.proofs.laws.counters_tell_their_end.Goals as goal

pub returns : goal.returns
returns c = tell_their_end

use Rattle.saved_runs.proofs.RunLemmas.{orders_stay, runs_stay, saved_is, start_is}
use Rattle.saved_runs.proofs.laws.runs_stay_onward.Goals as goal

pub returns-clause-start : goal.returns-clause-start
returns-clause-start c = start_is

pub returns-clause-saved : goal.returns-clause-saved
returns-clause-saved c = saved_is

pub returns-clause-orders : goal.returns-clause-orders
returns-clause-orders c = orders_stay

pub returns-clause-runs : goal.returns-clause-runs
returns-clause-runs c = runs_stay

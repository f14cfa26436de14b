use Rattle.grid_links.specs.Laws.{system_of}
use Rattle.grid_links.proofs.CapacityLemmas.{same_run, reaches_as_much}
use Rattle.grid_links.proofs.laws.small_links_are_enough.Goals as goal

pub returns-clause-same : goal.returns-clause-same
returns-clause-same g c = λ machine start capacity order most holds. same_run (system_of (g.T.Machine.act machine) (g.T.Machine.fed machine) start capacity) most order holds

pub returns-clause-reach : goal.returns-clause-reach
returns-clause-reach g c = λ machine start capacity order most holds. reaches_as_much (system_of (g.T.Machine.act machine) (g.T.Machine.fed machine) start capacity) most order holds

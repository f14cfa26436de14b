use Rattle.emitted_orders.proofs.AlikeLemmas.{emitted_runs}
use Rattle.emitted_orders.proofs.FitLemmas.{emitted_fits, emitted_three}
use Rattle.emitted_orders.proofs.node_code_runs_as_its_plan.Goals as goal

pub returns : goal.returns
returns c = record { runs = emitted_runs; fits = emitted_fits; three = emitted_three }

use Rattle.meaning_runs.proofs.TrapRunLemmas.{trap_exact}
use Rattle.meaning_runs.proofs.laws.traps_come_of_statements.Goals as goal

pub returns : goal.returns
returns c = trap_exact

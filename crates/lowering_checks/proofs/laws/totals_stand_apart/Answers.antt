use Rattle.lowering_checks.proofs.TotalLemmas.{first_puts, none_accumulate, rows_apart}
use Rattle.lowering_checks.proofs.laws.totals_stand_apart.Goals as goal

pub returns : goal.returns
returns c = record { rows = rows_apart; tables = none_accumulate; puts = first_puts }

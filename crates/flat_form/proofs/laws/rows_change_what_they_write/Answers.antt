use Rattle.flat_form.proofs.ChangeLemmas.{change_written}
use Rattle.flat_form.proofs.laws.rows_change_what_they_write.Goals as goal

pub returns : goal.returns
returns c = change_written

use Rattle.flat_form.proofs.TouchLemmas.{go_by_names}
use Rattle.flat_form.proofs.laws.rows_go_by_names.Goals as goal

pub returns : goal.returns
returns c = go_by_names

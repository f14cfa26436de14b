use Rattle.row_orders.proofs.AgreementLemmas.{agrees}
use Rattle.row_orders.proofs.laws.rows_agree.Goals as goal

pub returns : goal.returns
returns c = agrees

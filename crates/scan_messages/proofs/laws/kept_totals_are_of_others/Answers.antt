use Rattle.scan_messages.proofs.KeptLemmas.{kept_part}
use Rattle.scan_messages.proofs.laws.kept_totals_are_of_others.Goals as goal

pub returns : goal.returns
returns c = λ code p row local keeps. kept_part code p row local keeps

use Rattle.lowering_checks.proofs.InlineLemmas.{rows_inline}
use Rattle.lowering_checks.proofs.laws.all_rows_are_inline.Goals as goal

pub returns : goal.returns
returns c = rows_inline

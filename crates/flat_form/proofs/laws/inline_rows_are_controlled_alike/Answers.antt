use Rattle.flat_form.proofs.InlineLemmas.{control_inline}
use Rattle.flat_form.proofs.laws.inline_rows_are_controlled_alike.Goals as goal

pub returns : goal.returns
returns c = control_inline

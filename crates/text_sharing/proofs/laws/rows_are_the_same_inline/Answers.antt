use Rattle.text_sharing.proofs.RowLemmas.{shared-inline, shared-run}
use Rattle.text_sharing.proofs.laws.rows_are_the_same_inline.Goals as goal

pub returns : goal.returns
returns c = record { inline = shared-inline; run = shared-run }

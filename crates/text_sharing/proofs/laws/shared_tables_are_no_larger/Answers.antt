use Rattle.text_sharing.proofs.RowLemmas.{shared-bare, shared-counted, shared-size}
use Rattle.text_sharing.proofs.laws.shared_tables_are_no_larger.Goals as goal

pub returns : goal.returns
returns c = record { whole = shared-size; bare = shared-bare; counted = shared-counted }

use Rattle.sharable_tables.proofs.SettledLemmas.{settled_shares}
use Rattle.sharable_tables.proofs.settled_tables_are_sharable.Goals as goal

pub returns : goal.returns
returns c = settled_shares

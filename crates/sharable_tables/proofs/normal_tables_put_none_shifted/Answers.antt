use Rattle.sharable_tables.proofs.SettledLemmas.{puts_none}
use Rattle.sharable_tables.proofs.normal_tables_put_none_shifted.Goals as goal

pub returns : goal.returns
returns c = puts_none

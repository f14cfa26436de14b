use Rattle.zpl_names.proofs.NameLemmas.{kind_in-none, kind_in-distinct}
use Rattle.zpl_names.proofs.laws.names_stand_for_their_entries.Goals as goal

pub returns : goal.returns
returns c = record { none = kind_in-none; one = kind_in-distinct }

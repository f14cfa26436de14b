use Rattle.zpl_names.proofs.ExpansionLemmas.{expanded_of-sum, expanded_of-alone}
use Rattle.zpl_names.proofs.laws.counts_add_up.Goals as goal

pub returns : goal.returns
returns c = record { calls = expanded_of-sum; alone = expanded_of-alone }

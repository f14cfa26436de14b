use Rattle.served_places.proofs.PrefixLemmas.{under_told}
use Rattle.served_places.proofs.laws.told_behind_prefixes.Goals as goal

pub returns : goal.returns
returns c = under_told

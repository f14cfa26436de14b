use Rattle.served_places.proofs.GivenLemmas.{prefix_opens}
use Rattle.served_places.proofs.laws.prefixes_may_be_opened.Goals as goal

pub returns : goal.returns
returns c = prefix_opens

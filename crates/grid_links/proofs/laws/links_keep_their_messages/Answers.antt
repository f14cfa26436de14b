use Rattle.grid_links.proofs.EndLemmas.{keeps_messages}
use Rattle.grid_links.proofs.laws.links_keep_their_messages.Goals as goal

pub returns : goal.returns
returns g c = λ machine start capacity. keeps_messages _

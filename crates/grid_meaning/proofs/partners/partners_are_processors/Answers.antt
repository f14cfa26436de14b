use Rattle.grid_meaning.proofs.PartnerLemmas.{links-after, kept-below, names-local}
use Rattle.grid_meaning.proofs.partners.partners_are_processors.Goals as goal

pub returns : goal.returns
returns c = record { links = links-after; kept = kept-below; named = names-local }

use Rattle.row_turn.proofs.RowLemmas.{ok_map}
use Rattle.row_turn.proofs.StandLemmas.{slot_within}
use Rattle.row_turn.proofs.edges.words_in_edge.Goals as goal

pub region_in-region-requires-clause-slot : goal.region_in-region-requires-clause-slot
region_in-region-requires-clause-slot c = slot_within c.args.code.now c.args.slot c.requires.at.fits.rank c.requires.at.fits.fit.0

pub returns : goal.returns
returns c = ok_map c.edge_words.result _ _ (λ found told. told c.args.slot c.region_in-region.ensures.there) c.edge_words.ensures

use Rattle.row_turn.proofs.RowLemmas.{ok_map}
use Rattle.row_turn.proofs.StandLemmas.{slot_within}
use Rattle.row_turn.proofs.edges.alone_in_edge.Goals as goal

pub region_in-region-requires-clause-slot : goal.region_in-region-requires-clause-slot
region_in-region-requires-clause-slot c = slot_within c.args.code.now c.args.slot c.requires.at.fits.rank c.requires.at.fits.fit.0

pub returns-clause-alone : goal.returns-clause-alone
returns-clause-alone c =
    ok_map c.edge_alone.result _ _ (λ held told. told c.args.slot c.region_in-region.ensures.there) c.edge_alone.ensures.alone

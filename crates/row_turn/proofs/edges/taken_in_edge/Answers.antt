use Rattle.row_turn.proofs.RowLemmas.{edge_awaited}
use Rattle.row_turn.proofs.StandLemmas.{slot_within}
use Rattle.row_turn.proofs.edges.taken_in_edge.Goals as goal

pub region_in-region-requires-clause-slot : goal.region_in-region-requires-clause-slot
region_in-region-requires-clause-slot c = slot_within c.args.code.now c.args.slot c.requires.at.fits.rank c.requires.at.fits.fit.0

pub edge_taken-requires-clause-awaited : goal.edge_taken-requires-clause-awaited
edge_taken-requires-clause-awaited c =
    edge_awaited c.args.code.now c.args.p c.args.kind c.args.array c.args.slot c.args.shift.now c.args.local.now.local c.region_in-region.result
    c.args.from _ c.region_in-region.ensures.there c.requires.awaited

pub returns-clause-taken : goal.returns-clause-taken
returns-clause-taken c = c.edge_taken.ensures.taken c.args.slot c.region_in-region.ensures.there

use Rattle.grid_meaning.specs.Delivery.{edged}
use Rattle.row_turn.proofs.StageLemmas.{edge_stages, made_by, made_in_edge, stage_by}
use Rattle.row_turn.proofs.StandLemmas.{slot_within}
use Rattle.row_turn.proofs.edges.stage_in_edge.Goals as goal

pub region_in-region-requires-clause-slot : goal.region_in-region-requires-clause-slot
region_in-region-requires-clause-slot c = slot_within c.args.code.now c.args.slot c.requires.at.fits.rank c.requires.at.fits.fit.0

pub edge_stage-requires-clause-made : goal.edge_stage-requires-clause-made
edge_stage-requires-clause-made c =
    made_by (edged c.args.code.now c.args.p c.args.kind c.args._array c.args.slot c.args.shift.now) c.args.local.now.local _ c.made.result
    (edge_stages c.args.code.now c.args.p c.args.kind c.args._array c.args.slot c.args.shift.now c.args.local.now.local c.region_in-region.result c.region_in-region.ensures.there)
    c.made.ensures (made_in_edge c.args.code.now c.args.p c.args.local.now c.args.kind c.args._array c.args.slot c.args.shift.now c.requires.at)

pub returns : goal.returns
returns c =
    stage_by (edged c.args.code.now c.args.p c.args.kind c.args._array c.args.slot c.args.shift.now) c.args.local.now.local _ c.made.result _
    (edge_stages c.args.code.now c.args.p c.args.kind c.args._array c.args.slot c.args.shift.now c.args.local.now.local c.region_in-region.result c.region_in-region.ensures.there)
    c.made.ensures c.edge_stage.ensures

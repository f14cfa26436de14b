use Rattle.grid_meaning.specs.Gather.{gathered}
use Rattle.row_turn.proofs.StageLemmas.{gathering_stages, made_by, made_in_gather, stage_by}
use Rattle.row_turn.proofs.StandLemmas.{slot_within}
use Rattle.row_turn.proofs.gathers.stage_in_gather.Goals as goal

pub region_in-region-requires-clause-slot : goal.region_in-region-requires-clause-slot
region_in-region-requires-clause-slot c = slot_within c.args.code.now c.args.slot c.requires.at.fits.rank c.requires.at.fits.fit.0

pub gather_stage-requires-clause-made : goal.gather_stage-requires-clause-made
gather_stage-requires-clause-made c =
    made_by (gathered c.args.code.now c.args.p c.args._truth c.args._array c.args.slot) c.args.local.now.local _ c.made.result
    (gathering_stages c.args.code.now c.args.p c.args._truth c.args._array c.args.slot c.args.local.now.local c.region_in-region.result c.region_in-region.ensures.there)
    c.made.ensures (made_in_gather c.args.code.now c.args.p c.args.local.now c.args._truth c.args._array c.args.slot c.requires.at)

pub returns : goal.returns
returns c =
    stage_by (gathered c.args.code.now c.args.p c.args._truth c.args._array c.args.slot) c.args.local.now.local _ c.made.result _
    (gathering_stages c.args.code.now c.args.p c.args._truth c.args._array c.args.slot c.args.local.now.local c.region_in-region.result c.region_in-region.ensures.there)
    c.made.ensures c.gather_stage.ensures

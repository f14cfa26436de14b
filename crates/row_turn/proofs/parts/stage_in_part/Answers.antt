use Rattle.grid_meaning.specs.Delivery.{parted}
use Rattle.row_turn.proofs.MoreLemmas.{part_stages, made_in_part, same_rank}
use Rattle.row_turn.proofs.StageLemmas.{made_by, stage_by}
use Rattle.row_turn.proofs.StandLemmas.{slot_within}
use Rattle.row_turn.proofs.parts.stage_in_part.Goals as goal

pub region_in-region-requires-clause-slot : goal.region_in-region-requires-clause-slot
region_in-region-requires-clause-slot c = slot_within c.args.code.now c.args.target c.requires.at.fits.rank c.requires.at.fits.fit.0

pub region_in-other-requires-clause-slot : goal.region_in-other-requires-clause-slot
region_in-other-requires-clause-slot c = slot_within c.args.code.now c.args.source c.requires.at.fits.rank c.requires.at.fits.fit.1

pub part_stage-requires-clause-ranks : goal.part_stage-requires-clause-ranks
part_stage-requires-clause-ranks c =
    same_rank c.args.code.now c.args.target c.args.source c.requires.at.fits.rank c.region_in-region.result c.region_in-other.result
    c.requires.at.fits.fit.0 c.requires.at.fits.fit.1 c.region_in-region.ensures.ranked c.region_in-other.ensures.ranked

pub part_stage-requires-clause-made : goal.part_stage-requires-clause-made
part_stage-requires-clause-made c =
    made_by (parted c.args.code.now c.args.p c.args._array c.args.target c.args._fold c.args._from c.args.source) c.args.local.now.local _ c.made.result
    (part_stages c.args.code.now c.args.p c.args._array c.args.target c.args._fold c.args._from c.args.source c.args.local.now.local c.region_in-region.result c.region_in-other.result
    c.region_in-region.ensures.there c.region_in-other.ensures.there)
    c.made.ensures (made_in_part c.args.code.now c.args.p c.args.local.now c.args._array c.args.target c.args._fold c.args._from c.args.source c.requires.at)

pub returns : goal.returns
returns c =
    stage_by (parted c.args.code.now c.args.p c.args._array c.args.target c.args._fold c.args._from c.args.source) c.args.local.now.local _ c.made.result _
    (part_stages c.args.code.now c.args.p c.args._array c.args.target c.args._fold c.args._from c.args.source c.args.local.now.local c.region_in-region.result c.region_in-other.result
    c.region_in-region.ensures.there c.region_in-other.ensures.there)
    c.made.ensures c.part_stage.ensures

use Rattle.row_turn.proofs.MoreLemmas.{part_awaited, same_rank}
use Rattle.row_turn.proofs.StandLemmas.{slot_within}
use Rattle.row_turn.proofs.parts.taken_in_part.Goals as goal

pub region_in-region-requires-clause-slot : goal.region_in-region-requires-clause-slot
region_in-region-requires-clause-slot c = slot_within c.args.code.now c.args.target c.requires.at.fits.rank c.requires.at.fits.fit.0

pub region_in-other-requires-clause-slot : goal.region_in-other-requires-clause-slot
region_in-other-requires-clause-slot c = slot_within c.args.code.now c.args.source c.requires.at.fits.rank c.requires.at.fits.fit.1

pub part_taken-requires-clause-ranks : goal.part_taken-requires-clause-ranks
part_taken-requires-clause-ranks c =
    same_rank c.args.code.now c.args.target c.args.source c.requires.at.fits.rank c.region_in-region.result c.region_in-other.result
    c.requires.at.fits.fit.0 c.requires.at.fits.fit.1 c.region_in-region.ensures.ranked c.region_in-other.ensures.ranked

pub part_taken-requires-clause-awaited : goal.part_taken-requires-clause-awaited
part_taken-requires-clause-awaited c =
    part_awaited c.args.code.now c.args.p c.args.array c.args.target c.args.fold c.args._from c.args.source c.args.local.now.local c.region_in-region.result c.region_in-other.result
    c.args.sender _ c.region_in-region.ensures.there c.region_in-other.ensures.there c.requires.awaited

pub returns-clause-taken : goal.returns-clause-taken
returns-clause-taken c =
    c.part_taken.ensures.taken c.args.target c.args._from c.args.source c.region_in-region.ensures.there c.region_in-other.ensures.there

use Rattle.std.proofs.Common.{ap, ◌∙◌, ◌==◌, sym}
use Rattle.row_turn.proofs.MoreLemmas.{parted_count, same_rank}
use Rattle.row_turn.proofs.StandLemmas.{slot_within}
use Rattle.row_turn.proofs.parts.awaits_in_part.Goals as goal

pub region_in-region-requires-clause-slot : goal.region_in-region-requires-clause-slot
region_in-region-requires-clause-slot c = slot_within c.args.code.now c.args.target c.requires.at.fits.rank c.requires.at.fits.fit.0

pub region_in-other-requires-clause-slot : goal.region_in-other-requires-clause-slot
region_in-other-requires-clause-slot c = slot_within c.args.code.now c.args.source c.requires.at.fits.rank c.requires.at.fits.fit.1

pub part_count-requires-clause-ranks : goal.part_count-requires-clause-ranks
part_count-requires-clause-ranks c =
    same_rank c.args.code.now c.args.target c.args.source c.requires.at.fits.rank c.region_in-region.result c.region_in-other.result
    c.requires.at.fits.fit.0 c.requires.at.fits.fit.1 c.region_in-region.ensures.ranked c.region_in-other.ensures.ranked

pub returns : goal.returns
returns c =
    parted_count c.args.code.now c.args.p c.args._array c.args.target c.args._fold c.args._from c.args.source c.args.local.now.local c.region_in-region.result c.region_in-other.result
    c.args.sender c.args.many c.region_in-region.ensures.there c.region_in-other.ensures.there
    ∙ ap (λ n. c.args.many == n) (sym c.part_count.ensures)

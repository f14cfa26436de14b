use Rattle.row_turn.proofs.MoreLemmas.{same_rank}
use Rattle.row_turn.proofs.RowLemmas.{ok_map}
use Rattle.row_turn.proofs.StandLemmas.{slot_within}
use Rattle.row_turn.proofs.parts.words_in_part.Goals as goal

pub region_in-region-requires-clause-slot : goal.region_in-region-requires-clause-slot
region_in-region-requires-clause-slot c = slot_within c.args.code.now c.args.target c.requires.at.fits.rank c.requires.at.fits.fit.0

pub region_in-other-requires-clause-slot : goal.region_in-other-requires-clause-slot
region_in-other-requires-clause-slot c = slot_within c.args.code.now c.args.source c.requires.at.fits.rank c.requires.at.fits.fit.1

pub part_words-requires-clause-ranks : goal.part_words-requires-clause-ranks
part_words-requires-clause-ranks c =
    same_rank c.args.code.now c.args.target c.args.source c.requires.at.fits.rank c.region_in-region.result c.region_in-other.result
    c.requires.at.fits.fit.0 c.requires.at.fits.fit.1 c.region_in-region.ensures.ranked c.region_in-other.ensures.ranked

pub returns : goal.returns
returns c =
    ok_map c.part_words.result _ _ (λ found told.
    told c.args._array c.args.target c.args.source c.region_in-region.ensures.there c.region_in-other.ensures.there) c.part_words.ensures

use Rattle.grid_meaning.proofs.BoxLemmas.{box_is}
use Rattle.listing_rules.proofs.rooms.words_of.Goals as goal

pub words-requires-clause-array : goal.words-requires-clause-array
words-requires-clause-array c = rw c.box_of.ensures (box_is c.args.row.now c.requires.three c.if-row.true c.requires.row)

use Rattle.std.specs.Prelude.{◌≡◌}
use Rattle.grid_meaning.specs.Collective.{Collective}
use Rattle.row_turn.proofs.RowLemmas.{ok_map}
use Rattle.row_turn.proofs.StageLemmas.{of_start}
use Rattle.row_turn.proofs.exchanges.words_in_start.Goals as goal

pub items_of-items-requires : goal.items_of-items-requires
items_of-items-requires c = c.requires.at.fits.fit

pub returns : goal.returns
returns c =
    ok_map c.start_words.result _ _ (λ found told.
    of_start c.args.code.now c.args.p c.args.exchange c.items_of-items.result.now
    (λ (row : Collective). row.words_to c.args.local.now.local c.args.to ≡ found) c.items_of-items.ensures.there told)
    c.start_words.ensures

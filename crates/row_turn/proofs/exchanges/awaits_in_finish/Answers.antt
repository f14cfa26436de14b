use Rattle.std.proofs.Common.{sym}
use Rattle.std.specs.Prelude.{◌≡◌}
use Rattle.grid_meaning.specs.Collective.{Collective}
use Rattle.row_turn.proofs.StageLemmas.{of_finish}
use Rattle.row_turn.proofs.exchanges.awaits_in_finish.Goals as goal

pub items_of-items-requires : goal.items_of-items-requires
items_of-items-requires c = c.requires.at.fits.fit

pub returns : goal.returns
returns c =
    of_finish c.args.code.now c.args.p c.args.exchange c.items_of-items.result.now
    (λ (row : Collective). row.awaits c.args.local.now.local c.args.from c.args.many ≡ c.is_count.result) c.items_of-items.ensures.there
    (sym c.is_count.ensures)

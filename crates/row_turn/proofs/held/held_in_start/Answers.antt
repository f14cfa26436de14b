use Rattle.std.proofs.Common.{sym, ◌∙◌}
use Rattle.std.specs.Prelude.{◌≡◌, is_some}
use Rattle.grid_meaning.specs.Collective.{Collective}
use Rattle.row_turn.proofs.HeldLemmas.{words_held}
use Rattle.row_turn.proofs.StageLemmas.{of_start}
use Rattle.row_turn.proofs.held.held_in_start.Goals as goal

pub returns : goal.returns
returns c =
    of_start c.args.code.now c.args.p c.args.exchange c.items_of-items.result.now
    (λ (row : Collective). is_some (row.words_to c.args.local.now.local c.args.to) ≡ c.items_held.result) c.items_of-items.ensures.there
    (words_held c.args.code.now c.args.local.now.local c.items_of-items.result.now c.args.p c.args.to ∙ sym c.items_held.ensures)

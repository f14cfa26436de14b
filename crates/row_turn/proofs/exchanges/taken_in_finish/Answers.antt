use Rattle.std.proofs.Common.{cond, true, length}
use Rattle.std.specs.Prelude.{◌≡◌, Some, None}
use Rattle.std.proofs.lemmas.Bool.{eqb-true}
use Rattle.grid_meaning.specs.Collective.{Collective}
use Rattle.row_turn.proofs.StageLemmas.{is_finish, of_finish}
use Rattle.row_turn.proofs.exchanges.taken_in_finish.Goals as goal

pub items_of-items-requires : goal.items_of-items-requires
items_of-items-requires c = c.requires.at.fits.fit

pub finish_taken-requires-clause-awaited : goal.finish_taken-requires-clause-awaited
finish_taken-requires-clause-awaited c =
    eqb-true _ _
    (is_finish c.args.code.now c.args.p c.args.exchange c.items_of-items.result.now
    (λ (row : Collective). row.awaits c.args.local.now.local c.args.from (length c.args.words.now) ≡ true) c.items_of-items.ensures.there
    c.requires.awaited)

pub returns-clause-taken : goal.returns-clause-taken
returns-clause-taken c =
    of_finish c.args.code.now c.args.p c.args.exchange c.items_of-items.result.now
    (λ (row : Collective). row.taken c.args.local.now.local c.args.from c.args.words.now
    ≡ cond c.finish_taken.result (Some c.finish_taken.new.local.local) None) c.items_of-items.ensures.there
    c.finish_taken.ensures.taken

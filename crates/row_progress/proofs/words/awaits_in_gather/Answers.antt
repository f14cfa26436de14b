use Rattle.std.proofs.Common.{rules, ◌≡◌, ap, ◌∙◌, ◌==◌, sym}
use Rattle.row_turn.proofs.StandLemmas.{slot_within}
use Rattle.row_progress.proofs.KeeperLemmas.{gather_count}
use Rattle.row_progress.proofs.words.awaits_in_gather.Goals as goal

pub region_in-region-requires-clause-slot : goal.region_in-region-requires-clause-slot
region_in-region-requires-clause-slot c = slot_within c.args.code.now c.args.slot c.requires.start.fits.rank c.requires.start.fits.fit.0

pub returns : goal.returns
returns c =
    let same : c.from.result ≡ c.args.many = search rules in
    gather_count c.args.code.now c.args.p c.args._truth c.args._array c.args.slot c.args.local.now.local c.region_in-region.result
    c.own_tuples-own.result c.args.from c.args.many c.region_in-region.ensures.there c.own_tuples-own.ensures.tuples
    ∙ (ap (λ n. c.args.many == n) (sym c.tuples.ensures) ∙ ap (λ m. m == c.tuples.result) (sym same))

use Rattle.std.proofs.Common.{rules, ◌≡◌, ap, ◌∙◌, ◌==◌, sym}
use Rattle.row_turn.proofs.RowLemmas.{edge_count}
use Rattle.row_turn.proofs.StandLemmas.{slot_within}
use Rattle.row_turn.proofs.edges.awaits_in_edge.Goals as goal

pub region_in-region-requires-clause-slot : goal.region_in-region-requires-clause-slot
region_in-region-requires-clause-slot c = slot_within c.args.code.now c.args.slot c.requires.at.fits.rank c.requires.at.fits.fit.0

pub returns : goal.returns
returns c =
    let same : c.from.result ≡ c.args.many = search rules in
    edge_count c.args.code.now c.args.p c.args.kind c.args._array c.args.slot c.args.shift.now c.args.local.now.local c.region_in-region.result
    c.edge_piece-piece.result c.args.from c.args.many c.region_in-region.ensures.there c.edge_piece-piece.ensures.tuples
    ∙ (ap (λ n. c.args.many == n) (sym c.tuples.ensures) ∙ ap (λ m. m == c.tuples.result) (sym same))

use Rattle.std.proofs.Common.{◌∙◌, ap, map}
use Rattle.grid_layout.specs.Grid.{blocks_at, cuts}
use Rattle.grid_layout.specs.Layout.{axes_at}
use Rattle.grid_layout.proofs.SideLemmas.{firsts_of, lasts_of}
use Rattle.grid_layout.proofs.blocks.Blocks.own_block.Goals as goal

pub returns-clause-first : goal.returns-clause-first
returns-clause-first c =
    let ns = cuts c.args.self.now.grid c.args.rank in
    c.firsts.ensures.first
    ∙ (ap (map (λ side. side.first)) c.sides-sides.ensures.sides ∙ firsts_of (axes_at c.args.self.now c.args.rank) ns (blocks_at ns c.args.p))

pub returns-clause-last : goal.returns-clause-last
returns-clause-last c =
    let ns = cuts c.args.self.now.grid c.args.rank in
    c.lasts.ensures.last
    ∙ (ap (map (λ side. side.last)) c.sides-sides.ensures.sides ∙ lasts_of (axes_at c.args.self.now c.args.rank) ns (blocks_at ns c.args.p))

use Rattle.std.proofs.Common.{pos, ◌∙◌, ap, arith}
use Rattle.grid_layout.specs.Grid.{blocks_at, cuts}
use Rattle.grid_layout.specs.Sides.{each_side}
use Rattle.grid_layout.proofs.SideLemmas.{sides_told}
use Rattle.grid_layout.proofs.blocks.Blocks.sides.Goals as goal

pub returns-clause-sides : goal.returns-clause-sides
returns-clause-sides c =
    let grid = c.args.self.now.grid in
    let rank = c.args.rank in
    sides_told c.axes_at.result c.cuts-cuts.result c.blocks_at.result (record { low = pos 0; extent = 0 }) _ _ _
    (omega arith) (omega arith) (omega arith) c.side.ensures.side c.side-2.ensures.side c.side-3.ensures.side
    ∙ (ap (λ cs. each_side c.axes_at.result c.cuts-cuts.result cs) c.blocks_at.ensures.numbers
    ∙ (ap (λ ns. each_side c.axes_at.result ns (blocks_at ns c.args.p)) c.cuts-cuts.ensures.cuts
    ∙ ap (λ axes. each_side axes (cuts grid rank) (blocks_at (cuts grid rank) c.args.p)) c.axes_at.ensures.axes))

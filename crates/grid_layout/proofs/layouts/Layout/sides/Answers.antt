use Rattle.std.proofs.Common.{◌<◌, ◌∙◌, ap, arith, length, subst, sym}
use Rattle.grid_layout.specs.Grid.{processors_of}
use Rattle.grid_layout.specs.Layout.{AreBlocks, Arrangement, laid_out}
use Rattle.grid_layout.specs.Own.{HasBlocks, kept_at}
use Rattle.grid_layout.specs.Sides.{sides_of}
use Rattle.grid_layout.proofs.OwnLemmas.{kept_is, kept_there}
use Rattle.grid_layout.proofs.layouts.Layout.sides.Goals as goal

pub index-requires : goal.index-requires
index-requires c =
    let there : c.args.p < length c.self.inside.own.items =
    kept_there c.self.inside.blocks c.self.inside.boxes.items c.self.inside.own.items c.args.p c.self.invariant
    (subst (λ (a : Arrangement). c.args.p < processors_of a.grid) (sym c.self.view_is) c.requires.processor) in
    omega (arith, there)

pub of_rank-requires-clause-bounds : goal.of_rank-requires-clause-bounds
of_rank-requires-clause-bounds c =
    subst HasBlocks (sym c.index.ensures)
    (c.self.invariant.bounds c.args.p c.index.result.now
    (kept_there c.self.inside.blocks c.self.inside.boxes.items c.self.inside.own.items c.args.p c.self.invariant
    (subst (λ (a : Arrangement). c.args.p < processors_of a.grid) (sym c.self.view_is) c.requires.processor)))

pub returns-clause-sides : goal.returns-clause-sides
returns-clause-sides c =
    let there : c.args.p < processors_of c.self.inside.blocks.grid =
    subst (λ (a : Arrangement). c.args.p < processors_of a.grid) (sym c.self.view_is) c.requires.processor in
    c.of_rank.ensures.own
    ∙ (ap (λ own. kept_at own c.args.rank) c.index.ensures
    ∙ kept_is c.self.inside.blocks c.self.inside.boxes.items c.self.inside.own.items c.args.rank c.args.p c.index.result.now
    c.self.invariant there c.requires.above c.requires.below)
    ∙ ap (λ (a : Arrangement). sides_of (laid_out a) c.args.rank c.args.p) c.self.view_is

pub returns-clause-blocks : goal.returns-clause-blocks
returns-clause-blocks c =
    subst AreBlocks (c.self.invariant.layout.are ∙ ap laid_out c.self.view_is) c.self.invariant.layout.sound

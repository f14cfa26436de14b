use Rattle.std.proofs.Common.{◌≡◌, ◌*◌, get_or, to_z, of_z, w64, pos, ◌∙◌, ap, arith}
use Rattle.std.proofs.lemmas.Int.{ints}
use Rattle.grid_layout.specs.declared.axes.Axis.{Axis}
use Rattle.grid_layout.specs.Block.{block_of}
use Rattle.grid_layout.specs.Grid.{cuts, processor_at, product}
use Rattle.grid_layout.specs.Layout.{owning_blocks}
use Rattle.grid_layout.proofs.ThreeLemmas.{IsIndex, index_of, index_of_three, owner_told, product_of}
use Rattle.grid_layout.proofs.blocks.Blocks.owner.Goals as goal
use Rattle.grid_layout.proofs.blocks.Blocks.owner.Goals.{After-block_of-c}

index : (c : After-block_of-c) → IsIndex c.block_of-a.result c.block_of-b.result c.block_of-c.result (get_or c.cuts.result 0 0) (get_or c.cuts.result 1 0) (get_or c.cuts.result 2 0)
index c =
    let product : product c.cuts.result ≡ get_or c.cuts.result 0 0 * (get_or c.cuts.result 1 0 * get_or c.cuts.result 2 0) = product_of c.cuts.result (omega arith) in
    let few = c.cuts.ensures.grid.few in
    let count = c.cuts.ensures.count in
    index_of c.block_of-a.result c.block_of-b.result c.block_of-c.result (get_or c.cuts.result 0 0) (get_or c.cuts.result 1 0) (get_or c.cuts.result 2 0) c.block_of-a.ensures.below c.block_of-b.ensures.below c.block_of-c.ensures.below
    (omega (arith, product, count, few))

pub overflow_mul-result : goal.overflow_mul-result
overflow_mul-result c = let h = index (goal.at.overflow_mul-result c).After-block_of-c in let w = h.pair in omega (arith, w)

pub overflow_add-result : goal.overflow_add-result
overflow_add-result c = let h = index (goal.at.overflow_add-result c).After-block_of-c in let w = h.pair in omega (arith, w)

pub overflow_mul-result-2 : goal.overflow_mul-result-2
overflow_mul-result-2 c = let h = index (goal.at.overflow_mul-result-2 c).After-block_of-c in let w = h.scaled in omega (arith, w)

pub overflow_add-result-2 : goal.overflow_add-result-2
overflow_add-result-2 c = let h = index (goal.at.overflow_add-result-2 c).After-block_of-c in let w = h.whole in omega (arith, w)

pub returns-clause-owner : goal.returns-clause-owner
returns-clause-owner c =
    let x0 : to_z w64 (of_z w64 (get_or c.args.x 0 (pos 0))) ≡ get_or c.args.x 0 (pos 0) = omega (arith, ints) in
    let x1 : to_z w64 (of_z w64 (get_or c.args.x 1 (pos 0))) ≡ get_or c.args.x 1 (pos 0) = omega (arith, ints) in
    let x2 : to_z w64 (of_z w64 (get_or c.args.x 2 (pos 0))) ≡ get_or c.args.x 2 (pos 0) = omega (arith, ints) in
    let e : Axis = record { low = pos 0; extent = 0 } in
    owner_told c.axes_at.result c.cuts.result c.args.x e c.block_of-a.result c.block_of-b.result c.block_of-c.result (omega arith) (omega arith) (omega arith)
    (c.block_of-a.ensures.owner ∙ ap (block_of (get_or c.axes_at.result 0 e) (get_or c.cuts.result 0 0)) x0)
    (c.block_of-b.ensures.owner ∙ ap (block_of (get_or c.axes_at.result 1 e) (get_or c.cuts.result 1 0)) x1)
    (c.block_of-c.ensures.owner ∙ ap (block_of (get_or c.axes_at.result 2 e) (get_or c.cuts.result 2 0)) x2)
    ∙ (ap (λ ns. processor_at ns (owning_blocks c.axes_at.result ns c.args.x)) c.cuts.ensures.cuts
    ∙ ap (λ axes. processor_at (cuts c.args.self.now.grid c.args.rank) (owning_blocks axes (cuts c.args.self.now.grid c.args.rank) c.args.x)) c.axes_at.ensures.axes)

pub returns-clause-processor : goal.returns-clause-processor
returns-clause-processor c =
    let product = product_of c.cuts.result (omega arith) in
    let count = c.cuts.ensures.count in
    let below = index_of_three c.block_of-a.result c.block_of-b.result c.block_of-c.result (get_or c.cuts.result 0 0) (get_or c.cuts.result 1 0) (get_or c.cuts.result 2 0) c.block_of-a.ensures.below c.block_of-b.ensures.below c.block_of-c.ensures.below in
    omega (arith, below, product, count)

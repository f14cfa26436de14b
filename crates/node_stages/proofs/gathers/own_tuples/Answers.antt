use Rattle.std.proofs.Common.{◌≡◌, ◌<◌, get_or, to_z, of_z, w64, pos, sym, ap, ◌∙◌, subst, arith}
use Rattle.std.proofs.lemmas.Int.{ints}
use Rattle.reduce_plan.specs.of_zpl_region.declared.dims.Dim.TheVariants.{Range}
use Rattle.reduce_plan.specs.of_zpl_region.Region.{IsRegion, members}
use Rattle.grid_meaning.specs.of_grid_layout.Layout.{AreBlocks, laid_out}
use Rattle.grid_meaning.specs.of_grid_layout.Piece.{owned_part}
use Rattle.grid_meaning.proofs.of_grid_layout.SoundLemmas.{owned_is_region}
use Rattle.node_stages.proofs.OwnLemmas as own
use Rattle.node_stages.proofs.PieceLemmas.{IsRegion-slot, grid_count}
use Rattle.node_stages.proofs.gathers.own_tuples.Goals as goal

pub own_block-requires-clause-processor : goal.own_block-requires-clause-processor
own_block-requires-clause-processor c = subst (λ n. c.args.q < n) (sym (grid_count c.args.code.now c.args.layout.now c.requires.layout)) c.requires.processor

pub returns-clause-tuples : goal.returns-clause-tuples
returns-clause-tuples c =
    let region = c.args.region.now in
    let blocks = laid_out c.args.layout.now in
    let slot = own.IsShaped-slot _ region c.requires.slot in
    let sound : AreBlocks blocks = subst AreBlocks c.blocks-blocks.ensures.blocks c.blocks-blocks.ensures.sound in
    let f0 : to_z w64 (of_z w64 (get_or c.own_block.result.0 0 (pos 0))) ≡ get_or c.own_block.result.0 0 (pos 0) = omega (arith, ints) in
    let f1 : to_z w64 (of_z w64 (get_or c.own_block.result.0 1 (pos 0))) ≡ get_or c.own_block.result.0 1 (pos 0) = omega (arith, ints) in
    let f2 : to_z w64 (of_z w64 (get_or c.own_block.result.0 2 (pos 0))) ≡ get_or c.own_block.result.0 2 (pos 0) = omega (arith, ints) in
    let l0 : to_z w64 (of_z w64 (get_or c.own_block.result.1 0 (pos 0))) ≡ get_or c.own_block.result.1 0 (pos 0) = omega (arith, ints) in
    let l1 : to_z w64 (of_z w64 (get_or c.own_block.result.1 1 (pos 0))) ≡ get_or c.own_block.result.1 1 (pos 0) = omega (arith, ints) in
    let l2 : to_z w64 (of_z w64 (get_or c.own_block.result.1 2 (pos 0))) ≡ get_or c.own_block.result.1 2 (pos 0) = omega (arith, ints) in
    let dims = own.own_parts blocks c.args.q region (Range (pos 0) (pos 0) (pos 0) (pos 0)) c.part.result c.part-2.result c.part-3.result c.own_block.result.0 c.own_block.result.1
    sound slot.above slot.below slot.many c.own_block.ensures.first c.own_block.ensures.last (rw (f0, l0) at c.part.ensures) (rw (f1, l1) at c.part-2.ensures) (rw (f2, l2) at c.part-3.ensures) in
    ap (λ list. members (record { rank = region.rank; dims = list })) dims
    ∙ (ap (λ a. members (owned_part (laid_out a) c.args.q c.args.q region)) c.requires.layout
    ∙ own.own_tuples c.args.code.now c.args.q region c.requires.processor slot)

pub returns-clause-region : goal.returns-clause-region
returns-clause-region c =
    let region = c.args.region.now in
    let blocks = laid_out c.args.layout.now in
    let slot = own.IsShaped-slot _ region c.requires.slot in
    let sound : AreBlocks blocks = subst AreBlocks c.blocks-blocks.ensures.blocks c.blocks-blocks.ensures.sound in
    let f0 : to_z w64 (of_z w64 (get_or c.own_block.result.0 0 (pos 0))) ≡ get_or c.own_block.result.0 0 (pos 0) = omega (arith, ints) in
    let f1 : to_z w64 (of_z w64 (get_or c.own_block.result.0 1 (pos 0))) ≡ get_or c.own_block.result.0 1 (pos 0) = omega (arith, ints) in
    let f2 : to_z w64 (of_z w64 (get_or c.own_block.result.0 2 (pos 0))) ≡ get_or c.own_block.result.0 2 (pos 0) = omega (arith, ints) in
    let l0 : to_z w64 (of_z w64 (get_or c.own_block.result.1 0 (pos 0))) ≡ get_or c.own_block.result.1 0 (pos 0) = omega (arith, ints) in
    let l1 : to_z w64 (of_z w64 (get_or c.own_block.result.1 1 (pos 0))) ≡ get_or c.own_block.result.1 1 (pos 0) = omega (arith, ints) in
    let l2 : to_z w64 (of_z w64 (get_or c.own_block.result.1 2 (pos 0))) ≡ get_or c.own_block.result.1 2 (pos 0) = omega (arith, ints) in
    let dims = own.own_parts blocks c.args.q region (Range (pos 0) (pos 0) (pos 0) (pos 0)) c.part.result c.part-2.result c.part-3.result c.own_block.result.0 c.own_block.result.1
    sound slot.above slot.below slot.many c.own_block.ensures.first c.own_block.ensures.last (rw (f0, l0) at c.part.ensures) (rw (f1, l1) at c.part-2.ensures) (rw (f2, l2) at c.part-3.ensures) in
    subst (λ list. IsRegion (record { rank = region.rank; dims = list })) (sym dims)
    (owned_is_region blocks c.args.q c.args.q region sound (subst (λ n. c.args.q < n) (sym (grid_count c.args.code.now c.args.layout.now c.requires.layout)) c.requires.processor)
    slot.many (IsRegion-slot _ region c.requires.slot))

use Rattle.std.proofs.Common.{◌≡◌, get_or, to_z, of_z, w64, pos, subst, sym, arith}
use Rattle.std.proofs.lemmas.Int.{ints}
use Rattle.zpl_arrays.specs.of_zpl_region.declared.dims.Dim.TheVariants.{Range}
use Rattle.zpl_arrays.specs.of_zpl_region.Region.{IsRegion}
use Rattle.grid_layout.specs.Layout.{AreBlocks, laid_out}
use Rattle.move_plan.proofs.RegionLemmas.{border_is_region}
use Rattle.move_plan.proofs.CodeLemmas.{border_told, component_up_to, pieces_told}
use Rattle.move_plan.proofs.borders.border_piece.Goals as goal

pub piece_of-requires-clause-shift : goal.piece_of-requires-clause-shift
piece_of-requires-clause-shift c =
    let h = component_up_to c.components.result c.args.d c.args.region.now.rank 0 c.components.ensures c.requires.shift (omega arith) in (omega (arith, ints, h), omega (arith, ints, h))

pub piece_of-requires-2-clause-shift : goal.piece_of-requires-2-clause-shift
piece_of-requires-2-clause-shift c =
    let h = component_up_to c.components.result c.args.d c.args.region.now.rank 1 c.components.ensures c.requires.shift (omega arith) in (omega (arith, ints, h), omega (arith, ints, h))

pub piece_of-requires-3-clause-shift : goal.piece_of-requires-3-clause-shift
piece_of-requires-3-clause-shift c =
    let h = component_up_to c.components.result c.args.d c.args.region.now.rank 2 c.components.ensures c.requires.shift (omega arith) in (omega (arith, ints, h), omega (arith, ints, h))

pub returns-clause-piece : goal.returns-clause-piece
returns-clause-piece c =
    let r = c.args.region.now in
    let v = c.components.result in
    let firsts = c.own_block.result.0 in
    let lasts = c.own_block.result.1 in
    let v0 : to_z w64 (of_z w64 (get_or v 0 (pos 0))) ≡ get_or v 0 (pos 0) = omega (arith, ints) in
    let v1 : to_z w64 (of_z w64 (get_or v 1 (pos 0))) ≡ get_or v 1 (pos 0) = omega (arith, ints) in
    let v2 : to_z w64 (of_z w64 (get_or v 2 (pos 0))) ≡ get_or v 2 (pos 0) = omega (arith, ints) in
    let f0 : to_z w64 (of_z w64 (get_or firsts 0 (pos 0))) ≡ get_or firsts 0 (pos 0) = omega (arith, ints) in
    let f1 : to_z w64 (of_z w64 (get_or firsts 1 (pos 0))) ≡ get_or firsts 1 (pos 0) = omega (arith, ints) in
    let f2 : to_z w64 (of_z w64 (get_or firsts 2 (pos 0))) ≡ get_or firsts 2 (pos 0) = omega (arith, ints) in
    let l0 : to_z w64 (of_z w64 (get_or lasts 0 (pos 0))) ≡ get_or lasts 0 (pos 0) = omega (arith, ints) in
    let l1 : to_z w64 (of_z w64 (get_or lasts 1 (pos 0))) ≡ get_or lasts 1 (pos 0) = omega (arith, ints) in
    let l2 : to_z w64 (of_z w64 (get_or lasts 2 (pos 0))) ≡ get_or lasts 2 (pos 0) = omega (arith, ints) in
    border_told c.args.layout.now c.args.kind r c.targets.result c.owned-own.result c.owned-still.result c.args.d v firsts lasts c.args.from c.args.to c.blocks-blocks.result.now _
    c.blocks-blocks.ensures.blocks c.targets.ensures c.owned-own.ensures.owned c.owned-still.ensures.owned c.own_block.ensures.first c.own_block.ensures.last c.components.ensures
    (pieces_told c.args.kind v r.dims firsts lasts c.owned-own.result.dims c.owned-still.result.dims (Range (pos 0) (pos 0) (pos 0) (pos 0)) _ _ _
    (omega arith) (omega arith) (omega arith) (omega arith) (omega arith) (omega arith)
    (rw (v0, f0, l0) at c.piece_of.ensures) (rw (v1, f1, l1) at c.piece_of-2.ensures) (rw (v2, f2, l2) at c.piece_of-3.ensures))

pub returns-clause-region : goal.returns-clause-region
returns-clause-region c = λ within.
    let are : AreBlocks (laid_out c.args.layout.now) = subst AreBlocks c.blocks-blocks.ensures.blocks c.blocks-blocks.ensures.sound in
    subst IsRegion (sym (returns-clause-piece c))
    (border_is_region (laid_out c.args.layout.now) c.args.kind c.args.region.now c.args.d c.args.from c.args.to are c.requires.region within c.requires.shift (omega arith) (omega arith) c.requires.owner c.requires.receiver)

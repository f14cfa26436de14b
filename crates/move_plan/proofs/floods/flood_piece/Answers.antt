use Rattle.std.proofs.Common.{◌≡◌, get_or, to_z, of_z, w64, pos, ap, subst, sym, arith, ℕ, List, ◌<◌, [], ◌∷◌}
use Rattle.std.proofs.lemmas.Int.{ints}
use Rattle.zpl_arrays.specs.of_zpl_region.declared.dims.Dim.TheVariants.{Range}
use Rattle.zpl_arrays.specs.of_zpl_region.declared.regions.Region.{Region}
use Rattle.grid_layout.specs.declared.blocks.Blocks.{Blocks}
use Rattle.grid_layout.specs.Grid.{processors_of}
use Rattle.move_plan.specs.FloodPiece.{each_flood_piece}
use Rattle.move_plan.proofs.RegionLemmas.{flood_is_region}
use Rattle.move_plan.proofs.CodeLemmas.{flood_told, floods_told}
use Rattle.move_plan.proofs.floods.flood_piece.Goals as goal
use Rattle.move_plan.proofs.floods.flood_piece.Goals.{After-piece_of-3}

abbrev grid_of : Blocks → List ℕ
grid_of b = b.grid

abbrev rank_of : Region → ℕ
rank_of r = r.rank

dims_told : (c : After-piece_of-3)
    → c.piece_of.result ∷ c.piece_of-2.result ∷ c.piece_of-3.result ∷ [] ≡ each_flood_piece c.args.source.now.dims c.own_block.result.0 c.own_block.result.1 c.owned-own.result.dims c.owned-still.result.dims
dims_told c =
    let firsts = c.own_block.result.0 in
    let lasts = c.own_block.result.1 in
    let source = c.args.source.now in
    let f0 : to_z w64 (of_z w64 (get_or firsts 0 (pos 0))) ≡ get_or firsts 0 (pos 0) = omega (arith, ints) in
    let f1 : to_z w64 (of_z w64 (get_or firsts 1 (pos 0))) ≡ get_or firsts 1 (pos 0) = omega (arith, ints) in
    let f2 : to_z w64 (of_z w64 (get_or firsts 2 (pos 0))) ≡ get_or firsts 2 (pos 0) = omega (arith, ints) in
    let l0 : to_z w64 (of_z w64 (get_or lasts 0 (pos 0))) ≡ get_or lasts 0 (pos 0) = omega (arith, ints) in
    let l1 : to_z w64 (of_z w64 (get_or lasts 1 (pos 0))) ≡ get_or lasts 1 (pos 0) = omega (arith, ints) in
    let l2 : to_z w64 (of_z w64 (get_or lasts 2 (pos 0))) ≡ get_or lasts 2 (pos 0) = omega (arith, ints) in
    floods_told source.dims firsts lasts c.owned-own.result.dims c.owned-still.result.dims (Range (pos 0) (pos 0) (pos 0) (pos 0)) _ _ _ (omega arith) (omega arith) (omega arith) (omega arith) (omega arith)
    (rw (f0, l0, c.single.ensures) at c.piece_of.ensures) (rw (f1, l1, c.single-2.ensures) at c.piece_of-2.ensures) (rw (f2, l2, c.single-3.ensures) at c.piece_of-3.ensures)

pub returns-clause-piece : goal.returns-clause-piece
returns-clause-piece c =
    flood_told c.args.layout.now c.args.target.now c.args.source.now c.owned-own.result c.owned-still.result c.own_block.result.0 c.own_block.result.1 c.args.from c.args.to c.blocks-blocks.result.now _
    c.blocks-blocks.ensures.blocks c.owned-own.ensures.owned c.owned-still.ensures.owned c.own_block.ensures.first c.own_block.ensures.last (dims_told c)

pub returns-clause-region : goal.returns-clause-region
returns-clause-region c =
    let target = c.requires.target in
    let own = c.owned-own.ensures.region c.requires.target in
    let grid : c.blocks-blocks.result.now.grid ≡ c.args.layout.now.grid = ap grid_of c.blocks-blocks.ensures.blocks in
    flood_is_region c.blocks-blocks.result.now c.args.target.now.rank c.args.source.now c.owned-own.result c.owned-still.result c.own_block.result.0 c.own_block.result.1 c.args.from _ c.blocks-blocks.ensures.sound
    target.rank_above target.rank_below c.requires.source c.requires.ranks (omega arith) own (ap rank_of c.owned-own.ensures.owned) (omega arith) (c.owned-still.ensures.region own) (omega arith)
    c.own_block.ensures.first c.own_block.ensures.last (subst (λ g. c.args.from < processors_of g) (sym grid) c.requires.owner) (dims_told c)

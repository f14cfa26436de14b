-- The indices of a flood that a receiver sets from an owner's values.
use Rattle.std.specs.Prelude.{ℕ, ℤ, if◌then◌else◌, List, [], ◌∷◌, Option, Some, None}
use Rattle.zpl_arrays.specs.of_zpl_region.declared.dims.Dim.{Dim}
use Rattle.zpl_arrays.specs.of_zpl_region.declared.regions.Region.{Region}
use Rattle.zpl_arrays.specs.of_zpl_region.Ends.{single_of}
use Rattle.zpl_arrays.specs.of_zpl_region.Progression.{is_between}
use Rattle.grid_layout.specs.declared.blocks.Blocks.{Blocks}
use Rattle.grid_layout.specs.Layout.{Arrangement, laid_out, own_first, own_last}
use Rattle.grid_layout.specs.Piece.{nothing, owned_part}

-- where the source has a single coordinate: all of a receiver's indices, if that coordinate lies in
-- the owner's block, from first to last. Where it has none, the indices that the owner itself has
abbrev pub dim_flood_piece : Option ℤ → ℤ → ℤ → Dim → Dim → Dim
dim_flood_piece (Some y) first last own still = if is_between first last y then own else nothing
dim_flood_piece None first last own still = still

abbrev pub each_flood_piece : List Dim → List ℤ → List ℤ → List Dim → List Dim → List Dim
each_flood_piece (dim ∷ dims) (first ∷ firsts) (last ∷ lasts) (own ∷ owns) (still ∷ stills) =
    dim_flood_piece (single_of dim) first last own still ∷ each_flood_piece dims firsts lasts owns stills
each_flood_piece _ _ _ _ _ = []

-- the indices that a receiver sets: the part of the target in its own block
abbrev pub flood_targets : Blocks → Region → ℕ → Region
flood_targets blocks target to = owned_part blocks to to target

-- and those of them whose source an owner has
abbrev pub flood_piece_in : Blocks → Region → Region → ℕ → ℕ → Region
flood_piece_in blocks target source from to =
    let own = flood_targets blocks target to in
    record {
      rank = target.rank;
      dims = each_flood_piece source.dims (own_first blocks target.rank from) (own_last blocks target.rank from) own.dims (owned_part blocks from to own).dims;
    }

abbrev pub flood_piece_of : Arrangement → Region → Region → ℕ → ℕ → Region
flood_piece_of a target source from to = flood_piece_in (laid_out a) target source from to

-- Which places of an array a processor needs of another one.
use Rattle.std.specs.Prelude.{ℕ, ◌==◌, if◌then◌else◌, ℤ, pos, int_le, List, [], ◌∷◌}
use Rattle.std.specs.Int.{int_max, int_min}
use Rattle.zpl_region.specs.declared.dims.Dim.{Dim}
use Rattle.zpl_region.specs.declared.dims.Dim.TheVariants.{Range, Flood}
use Rattle.zpl_region.specs.declared.regions.Region.{Region}
use Rattle.zpl_region.specs.Dim.{dim_moved}
use Rattle.zpl_region.specs.Region.{components}
use Rattle.zpl_region.specs.Ends.{coordinate_count}
use Rattle.zpl_region.specs.Hull.{all_from}
use Rattle.grid_layout.specs.declared.axes.Axis.{Axis}
use Rattle.grid_layout.specs.declared.blocks.Blocks.{Blocks}
use Rattle.grid_layout.specs.Block.{block_first, block_last, block_of}
use Rattle.grid_layout.specs.Grid.{cuts, blocks_at, processor_at}
use Rattle.grid_layout.specs.Layout.{Arrangement, laid_out, axes_at, held_box_of}

-- no coordinate
abbrev pub nothing : Dim
nothing = all_from (pos 1) (pos 0)

-- the range with these bounds, which is `1..0` where they are the wrong way round
abbrev pub range_or_nothing : ℤ → ℤ → ℤ → ℤ → Dim
range_or_nothing lo hi step align = if int_le lo hi then Range lo hi step align else nothing

-- the part of a dimension from lo to hi
abbrev pub part : ℤ → ℤ → Dim → Dim
part lo hi (Range from to step align) = range_or_nothing (int_max from lo) (int_min to hi) step align
part lo hi Flood = Flood

-- ---- what a processor needs

-- the places that a dimension of indices, moved by d, names in a dimension of a held box. A flood
-- dimension of the array has its one position whatever the coordinate is, and the position of a
-- flood dimension of the indices is written 0
abbrev pub place_dim : Dim → ℤ → Dim → Dim
place_dim Flood d dim = if coordinate_count dim == 0 then nothing else Flood
place_dim (Range lo hi step align) d Flood = part lo hi (all_from (pos 0) (pos 0))
place_dim (Range lo hi step align) d (Range from to stride base) = part lo hi (dim_moved d (Range from to stride base))

-- the part of the indices in the own block, of the number k, moved by d, within the held box
abbrev pub needed_dim : Axis → ℕ → ℕ → Dim → ℤ → Dim → Dim
needed_dim axis n k held d dim = place_dim held d (part (block_first axis n k) (block_last axis n k) dim)

abbrev pub each_needed : List Axis → List ℕ → List ℕ → List Dim → List ℤ → List Dim → List Dim
each_needed (axis ∷ axes) (n ∷ ns) (k ∷ ks) (held ∷ helds) (d ∷ v) (dim ∷ dims) =
    needed_dim axis n k held d dim ∷ each_needed axes ns ks helds v dims
each_needed _ _ _ _ _ _ = []

-- the places of a held box that its processor needs for a region and a shift
abbrev pub needed_in : Blocks → Region → ℕ → Region → List ℤ → Region
needed_in blocks held to region shift =
    let ns = cuts blocks.grid region.rank in
    record {
      rank = region.rank;
      dims = each_needed (axes_at blocks region.rank) ns (blocks_at ns to) held.dims (components region.rank shift) region.dims;
    }

-- ---- what of it another one owns

-- the part of a dimension in the owner's block, of the number c; of a flood dimension, that of the
-- owner with the receiver's block, of the number k
abbrev pub owned_dim : Axis → ℕ → ℕ → ℕ → Dim → Dim
owned_dim axis n c k (Range lo hi step align) = part (block_first axis n c) (block_last axis n c) (Range lo hi step align)
owned_dim axis n c k Flood = if c == k then Flood else nothing

abbrev pub each_owned : List Axis → List ℕ → List ℕ → List ℕ → List Dim → List Dim
each_owned (axis ∷ axes) (n ∷ ns) (c ∷ cs) (k ∷ ks) (dim ∷ dims) = owned_dim axis n c k dim ∷ each_owned axes ns cs ks dims
each_owned _ _ _ _ _ = []

-- the part of a region that a processor owns, for a receiver
abbrev pub owned_part : Blocks → ℕ → ℕ → Region → Region
owned_part blocks from to r =
    let ns = cuts blocks.grid r.rank in
    record { rank = r.rank; dims = each_owned (axes_at blocks r.rank) ns (blocks_at ns from) (blocks_at ns to) r.dims }

-- ---- the same by owners

-- the block that has a coordinate: in a flood dimension it is the receiver's, of the number k
abbrev pub block_for : Axis → ℕ → ℕ → Dim → ℤ → ℕ
block_for axis n k (Range lo hi step align) x = block_of axis n x
block_for axis n k Flood x = k

abbrev pub each_block_for : List Axis → List ℕ → List ℕ → List Dim → List ℤ → List ℕ
each_block_for (axis ∷ axes) (n ∷ ns) (k ∷ ks) (dim ∷ dims) (x ∷ t) = block_for axis n k dim x ∷ each_block_for axes ns ks dims t
each_block_for _ _ _ _ _ = []

-- the processor that owns a tuple of a region for a receiver. Without flood dimensions it is the
-- tuple's owner
abbrev pub owner_for : Blocks → ℕ → Region → List ℤ → ℕ
owner_for blocks to r t =
    let ns = cuts blocks.grid r.rank in
    processor_at ns (each_block_for (axes_at blocks r.rank) ns (blocks_at ns to) r.dims t)

-- no dimension is flood
abbrev pub IsRange : Dim → Type 0
IsRange (Range lo hi step align) = Unit {0}
IsRange Flood = ⊥

-- ---- pieces
abbrev pub piece_in : Blocks → Region → ℕ → ℕ → Region → List ℤ → Region
piece_in blocks held from to region shift = owned_part blocks from to (needed_in blocks held to region shift)

-- the places of an array that a processor needs, and those of them that another one owns
abbrev pub needed_of : Arrangement → ℕ → ℕ → Region → List ℤ → Region
needed_of a array to region shift = needed_in (laid_out a) (held_box_of a array to) to region shift

abbrev pub piece_of : Arrangement → ℕ → ℕ → ℕ → Region → List ℤ → Region
piece_of a array from to region shift = piece_in (laid_out a) (held_box_of a array to) from to region shift

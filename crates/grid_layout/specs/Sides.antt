-- The blocks of a processor, one in each dimension: what it holds, needs and owns, by where they
-- begin and end.
use Rattle.std.specs.Prelude.{◌≡◌, ℕ, ◌==◌, Bool, false, ℤ, pos, ◌+ℤ◌, ◌-ℤ◌, int_lt, if◌then◌else◌, List, [], ◌∷◌}
use Rattle.std.specs.Int.{int_max, int_min}
use Rattle.zpl_region.specs.declared.dims.Dim.{Dim}
use Rattle.zpl_region.specs.declared.dims.Dim.TheVariants.{Range, Flood}
use Rattle.zpl_region.specs.declared.regions.Region.{Region}
use Rattle.zpl_region.specs.Dim.{IsUpTo}
use Rattle.zpl_region.specs.Hull.{all_from}
use Rattle.zpl_region.specs.Region.{IsRegion, components, members}
use Rattle.grid_layout.specs.declared.axes.Axis.{Axis}
use Rattle.grid_layout.specs.declared.blocks.Blocks.{Blocks}
use Rattle.grid_layout.specs.declared.boxes.ArrayBox.{ArrayBox}
use Rattle.grid_layout.specs.declared.sides.Side.{Side}
use Rattle.grid_layout.specs.Block.{block_first, block_last, is_block_empty}
use Rattle.grid_layout.specs.Grid.{cuts, blocks_at}
use Rattle.grid_layout.specs.Layout.{axes_at, or_emptied}
use Rattle.grid_layout.specs.Piece.{nothing, part, place_dim}

-- the block with this number, of so many
abbrev pub side_of : Axis → ℕ → ℕ → Side
side_of axis n c = record {
  block = c;
  first = block_first axis n c;
  last = block_last axis n c;
  is_empty = is_block_empty axis n c;
}

abbrev pub each_side : List Axis → List ℕ → List ℕ → List Side
each_side (axis ∷ axes) (n ∷ ns) (c ∷ cs) = side_of axis n c ∷ each_side axes ns cs
each_side _ _ _ = []

-- those of a processor in the dimensions of a rank
abbrev pub sides_of : Blocks → ℕ → ℕ → List Side
sides_of blocks rank p =
    each_side (axes_at blocks rank) (cuts blocks.grid rank) (blocks_at (cuts blocks.grid rank) p)

-- its bounds are from -2^41 to 2^41
abbrev pub IsSide : Side → Type 0
IsSide side = IsUpTo 41 side.first × IsUpTo 41 side.last

-- ---- what is held of a storage, with fringes
abbrev pub side_held : Side → ℤ → ℤ → Dim → Dim
side_held side low high (Range lo hi step align) =
    if side.is_empty then all_from (pos 1) (pos 0)
    else all_from (int_max lo (side.first -ℤ low)) (int_min hi (side.last +ℤ high))
side_held side low high Flood = Flood

abbrev pub each_side_held : List Side → List ℤ → List ℤ → List Dim → List Dim
each_side_held (side ∷ sides) (low ∷ lows) (high ∷ highs) (dim ∷ dims) =
    side_held side low high dim ∷ each_side_held sides lows highs dims
each_side_held _ _ _ _ = []

abbrev pub held_between : List Side → ArrayBox → Region
held_between sides box = or_emptied (record {
  rank = box.shape.rank;
  dims = each_side_held sides box.low box.high box.shape.dims;
})

-- ---- what is needed of a held box
abbrev pub side_needed : Side → Dim → ℤ → Dim → Dim
side_needed side held d dim = place_dim held d (part side.first side.last dim)

abbrev pub each_side_needed : List Side → List Dim → List ℤ → List Dim → List Dim
each_side_needed (side ∷ sides) (held ∷ helds) (d ∷ v) (dim ∷ dims) =
    side_needed side held d dim ∷ each_side_needed sides helds v dims
each_side_needed _ _ _ _ = []

abbrev pub needed_between : List Side → Region → Region → List ℤ → Region
needed_between sides held region shift = record {
  rank = region.rank;
  dims = each_side_needed sides held.dims (components region.rank shift) region.dims;
}

-- ---- what of it another one owns
abbrev pub side_owned : Side → Side → Dim → Dim
side_owned from to (Range lo hi step align) = part from.first from.last (Range lo hi step align)
side_owned from to Flood = if from.block == to.block then Flood else nothing

abbrev pub each_side_owned : List Side → List Side → List Dim → List Dim
each_side_owned (from ∷ sides) (to ∷ others) (dim ∷ dims) = side_owned from to dim ∷ each_side_owned sides others dims
each_side_owned _ _ _ = []

abbrev pub owned_between : List Side → List Side → Region → Region
owned_between from to region = record { rank = region.rank; dims = each_side_owned from to region.dims }

-- ---- all at once: what another one owns of what is needed, where the held range isn't emptied for another one's sake
abbrev pub side_place : Side → Side → ℤ → ℤ → Dim → ℤ → Dim → Dim
side_place from to low high stored d dim = side_owned from to (side_needed to (side_held to low high stored) d dim)

-- a range whose bounds are the wrong way round
abbrev pub is_bare : Dim → Bool
is_bare (Range lo hi step align) = int_lt hi lo
is_bare Flood = false

-- the tuples of a region, as those of another one, which calls take where they take that
pub record ArePlaces (region found : Region) : Type 0 where
  pub same : members found ≡ members region
  pub sound : IsRegion region → IsRegion found

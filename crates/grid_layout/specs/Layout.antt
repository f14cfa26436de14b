-- How arrays are laid out over the processors of a grid: owners, own blocks and held boxes.
use Rattle.std.specs.Prelude.{◌≡◌, ℕ, ◌-◌, ◌==◌, ◌^◌, Bool, not, ◌&&◌, ℤ, pos, ◌+ℤ◌, ◌-ℤ◌, ◌≤ℤ◌, if◌then◌else◌, List, [], ◌∷◌, fold, length, map, slice_index_or, Option, Some, None, All}
use Rattle.std.specs.Int.{int_max, int_min}
use Rattle.zpl_region.specs.declared.dims.Dim.{Dim}
use Rattle.zpl_region.specs.declared.dims.Dim.TheVariants.{Range, Flood}
use Rattle.zpl_region.specs.declared.regions.Region.{Region}
use Rattle.zpl_region.specs.Dim.{IsUpTo, extent}
use Rattle.zpl_region.specs.Region.{IsRegion}
use Rattle.zpl_region.specs.Ends.{has_none}
use Rattle.zpl_region.specs.Hull.{all_from, emptied}
use Rattle.grid_layout.specs.declared.axes.Axis.{Axis}
use Rattle.grid_layout.specs.declared.blocks.Blocks.{Blocks}
use Rattle.grid_layout.specs.declared.boxes.ArrayBox.{ArrayBox}
use Rattle.grid_layout.specs.Block.{block_of, block_first, block_last, is_block_empty}
use Rattle.grid_layout.specs.Grid.{cuts, blocks_at, processor_at}

-- What a layout is of: the factors of the grid, and the stored arrays.
pub record Arrangement : Type 0 where
  pub grid : List ℕ
  pub boxes : List ArrayBox

-- ---- what is laid out

-- a storage: in each dimension all coordinates from lo to hi, or flood
abbrev pub IsBoxDim : Dim → Type 0
IsBoxDim (Range lo hi step align) = step ≡ pos 1
IsBoxDim Flood = Unit {0}

-- bounds are from -2^41 to 2^41, as those of a held box before it is known whether it has places
abbrev pub HasWideBounds : Dim → Type 0
HasWideBounds (Range lo hi step align) = IsUpTo 41 lo × IsUpTo 41 hi
HasWideBounds Flood = Unit {0}

-- how far an array is read beyond a block
abbrev pub IsFringe : ℤ → Type 0
IsFringe width = (pos 0 ≤ℤ width) × (width ≤ℤ pos (2 ^ 31))

pub record IsArrayBox (box : ArrayBox) : Type 0 where
  pub region : IsRegion box.shape
  pub full : All IsBoxDim box.shape.dims
  pub low : All IsFringe box.low
  pub high : All IsFringe box.high

-- one dimension, one width below and one above for each of three, as the code's lists have them
pub record HasThree (box : ArrayBox) : Type 0 where
  pub dims : length box.shape.dims ≡ 3
  pub low : length box.low ≡ 3
  pub high : length box.high ≡ 3

-- ---- the hull of storages in one dimension

-- around what was there before and a range: from the least bound to the greatest
abbrev pub around : Option (ℤ × ℤ) → Dim → Option (ℤ × ℤ)
around None (Range lo hi step align) = Some (lo, hi)
around (Some hull) (Range lo hi step align) = Some (int_min hull.0 lo, int_max hull.1 hi)
around hull Flood = hull

-- whether the storage has that rank and a tuple: one without tuples adds nothing
abbrev pub counts : ℕ → Region → Bool
counts rank shape = (shape.rank == rank) && not (has_none shape)

abbrev pub widened : ℕ → ℕ → Option (ℤ × ℤ) → ArrayBox → Option (ℤ × ℤ)
widened rank k hull box = if counts rank box.shape then around hull (slice_index_or box.shape.dims k Flood) else hull

-- around the storages of a rank that have a range in the k-th dimension, k counted from 0
abbrev pub hull_in : ℕ → ℕ → List ArrayBox → Option (ℤ × ℤ)
hull_in rank k boxes = fold (widened rank k) None boxes

-- a hull has bounds from -2^40 to 2^40
abbrev pub IsHull : Option (ℤ × ℤ) → Type 0
IsHull None = Unit {0}
IsHull (Some hull) = IsUpTo 40 hull.0 × IsUpTo 40 hull.1

-- what is shared out in a dimension; nothing at 0, where no storage has a range there
abbrev pub axis_over : Option (ℤ × ℤ) → Axis
axis_over None = record { low = pos 0; extent = 0 }
axis_over (Some hull) = record { low = hull.0; extent = extent hull.0 hull.1 }

abbrev pub axes_of : List ArrayBox → ℕ → List Axis
axes_of boxes rank = map (λ k. axis_over (hull_in rank k boxes)) (0 ∷ 1 ∷ 2 ∷ [])

-- the blocks into which the dimensions of each rank are cut
abbrev pub blocks_of : List ℕ → List ArrayBox → Blocks
blocks_of grid boxes = record {
  grid = grid;
  lines = axes_of boxes 1;
  planes = axes_of boxes 2;
  spaces = axes_of boxes 3;
}

abbrev pub laid_out : Arrangement → Blocks
laid_out a = blocks_of a.grid a.boxes

-- the dimensions of a rank
abbrev pub axes_at : Blocks → ℕ → List Axis
axes_at blocks rank = if rank == 1 then blocks.lines else if rank == 2 then blocks.planes else blocks.spaces

-- ---- what the calls ask of blocks
pub record IsAxis (axis : Axis) : Type 0 where
  pub low : IsUpTo 40 axis.low
  pub high : IsUpTo 40 (axis.low +ℤ pos (axis.extent - 1))

abbrev pub AreAxes : List Axis → Type 0
AreAxes axes = (length axes ≡ 3) × All IsAxis axes

pub record AreBlocks (blocks : Blocks) : Type 0 where
  pub lines : AreAxes blocks.lines
  pub planes : AreAxes blocks.planes
  pub spaces : AreAxes blocks.spaces

-- the blocks are those of the arrays
pub record IsLayout (blocks : Blocks) (boxes : List ArrayBox) : Type 0 where
  pub are : blocks ≡ blocks_of blocks.grid boxes
  pub sound : AreBlocks blocks
  pub boxes_are : All IsArrayBox boxes

-- ---- owners
abbrev pub owning_blocks : List Axis → List ℕ → List ℤ → List ℕ
owning_blocks [] ns t = []
owning_blocks (axis ∷ axes) [] t = []
owning_blocks (axis ∷ axes) (n ∷ ns) [] = []
owning_blocks (axis ∷ axes) (n ∷ ns) (x ∷ t) = block_of axis n x ∷ owning_blocks axes ns t

-- the processor that owns the tuple
abbrev pub owner_of : Blocks → ℕ → List ℤ → ℕ
owner_of blocks rank t =
    processor_at (cuts blocks.grid rank) (owning_blocks (axes_at blocks rank) (cuts blocks.grid rank) t)

-- ---- own blocks: a bound of the block in each dimension
abbrev pub each_bound : (Axis → ℕ → ℕ → ℤ) → List Axis → List ℕ → List ℕ → List ℤ
each_bound bound [] ns cs = []
each_bound bound (axis ∷ axes) [] cs = []
each_bound bound (axis ∷ axes) (n ∷ ns) [] = []
each_bound bound (axis ∷ axes) (n ∷ ns) (c ∷ cs) = bound axis n c ∷ each_bound bound axes ns cs

abbrev pub bounds_by : (Axis → ℕ → ℕ → ℤ) → Blocks → ℕ → ℕ → List ℤ
bounds_by bound blocks rank p =
    each_bound bound (axes_at blocks rank) (cuts blocks.grid rank) (blocks_at (cuts blocks.grid rank) p)

abbrev pub own_first : Blocks → ℕ → ℕ → List ℤ
own_first blocks rank p = bounds_by block_first blocks rank p

abbrev pub own_last : Blocks → ℕ → ℕ → List ℤ
own_last blocks rank p = bounds_by block_last blocks rank p

-- each component lies from its low bound to its high bound
abbrev pub LiesBetween : List ℤ → List ℤ → List ℤ → Type 0
LiesBetween (low ∷ lows) (high ∷ highs) (x ∷ t) = ((low ≤ℤ x) × (x ≤ℤ high)) × LiesBetween lows highs t
LiesBetween _ _ _ = Unit {0}

-- ---- held boxes: the own block, widened by the fringe, within the storage

-- a range of the storage, of which the block with this number is held; an empty block holds nothing
abbrev pub held_dim : Axis → ℕ → ℕ → ℤ → ℤ → Dim → Dim
held_dim axis n c low high (Range lo hi step align) =
    if is_block_empty axis n c then all_from (pos 1) (pos 0)
    else all_from (int_max lo (block_first axis n c -ℤ low)) (int_min hi (block_last axis n c +ℤ high))
held_dim axis n c low high Flood = Flood

abbrev pub each_held : List Axis → List ℕ → List ℕ → List ℤ → List ℤ → List Dim → List Dim
each_held (axis ∷ axes) (n ∷ ns) (c ∷ cs) (low ∷ lows) (high ∷ highs) (dim ∷ dims) =
    held_dim axis n c low high dim ∷ each_held axes ns cs lows highs dims
each_held _ _ _ _ _ _ = []

-- where some range holds nothing, each is `1..0`
abbrev pub or_emptied : Region → Region
or_emptied r = if has_none r then record { rank = r.rank; dims = emptied r.rank r.dims } else r

abbrev pub held_of : Blocks → ArrayBox → ℕ → Region
held_of blocks box p =
    let rank = box.shape.rank in
    let ns = cuts blocks.grid rank in
    or_emptied (record {
      rank = rank;
      dims = each_held (axes_at blocks rank) ns (blocks_at ns p) box.low box.high box.shape.dims;
    })

-- what stands for an array that there isn't
abbrev pub no_box : ArrayBox
no_box = record {
  shape = record { rank = 1; dims = Flood ∷ Flood ∷ Flood ∷ [] };
  low = [];
  high = [];
}

abbrev pub box_at : Arrangement → ℕ → ArrayBox
box_at a array = slice_index_or a.boxes array no_box

abbrev pub held_box_of : Arrangement → ℕ → ℕ → Region
held_box_of a array p = held_of (laid_out a) (box_at a array) p

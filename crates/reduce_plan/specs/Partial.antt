-- Partial folds: what one block of the source gives for the indices of the target.
use Rattle.std.specs.Prelude.{Bool, ℤ, pos, List, [], ◌∷◌, map, filter, if◌then◌else◌}
use Rattle.std.specs.List.{list_any}
use Rattle.region_places.specs.of_zpl_nums.declared.folds.Fold.{Fold}
use Rattle.grid_layout.specs.of_zpl_region.declared.dims.Dim.{Dim}
use Rattle.grid_layout.specs.of_zpl_region.declared.regions.Region.{Region}
use Rattle.grid_layout.specs.of_zpl_region.Hull.{all_from}
use Rattle.grid_layout.specs.of_zpl_region.Region.{members}
use Rattle.grid_layout.specs.of_zpl_region.Tests.{is_coordinate}
use Rattle.region_places.specs.of_zpl_arrays.Array.{Array, element}
use Rattle.region_places.specs.of_zpl_arrays.Conformity.{is_collapsed}
use Rattle.region_places.specs.of_zpl_arrays.Fold.{agrees, partly_reduced}

-- whether some tuple of the block agrees with x in each dimension that the target doesn't collapse
abbrev pub is_reached : Region → Region → List ℤ → Bool
is_reached target block x = list_any (agrees target.dims x) (members block)

-- for each index of `within` that the block reaches, in row-major order: the fold of the block's
-- values at the tuples that agree with it
abbrev pub partials_of : Fold → Region → Region → Array → List ℤ
partials_of op target within block =
    map (partly_reduced op target block.storage (element block)) (filter (is_reached target block.storage) (members within))

-- ---- the tuples of a block that agree with x, as a region

-- a dimension with the coordinate x alone, or with none where x is no coordinate of it
abbrev pub only : Dim → ℤ → Dim
only dim x = if is_coordinate dim x then all_from x x else all_from (pos 1) (pos 0)

abbrev pub dim_reached : Dim → Dim → ℤ → Dim
dim_reached target dim x = if is_collapsed target then dim else only dim x

abbrev pub each_reached : List Dim → List Dim → List ℤ → List Dim
each_reached (target ∷ targets) (dim ∷ dims) (x ∷ xs) = dim_reached target dim x ∷ each_reached targets dims xs
each_reached _ _ _ = []

abbrev pub reached : Region → Region → List ℤ → Region
reached target block x = record { rank = block.rank; dims = each_reached target.dims block.dims x }

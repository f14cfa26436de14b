-- How the regions of a partial reduction and of a flood conform, dimensions compared as sets.
use Rattle.std.specs.Prelude.{Bool, true, ◌&&◌, ◌||◌, List, [], ◌∷◌, is_some}
use Rattle.zpl_region.specs.declared.dims.Dim.{Dim}
use Rattle.zpl_region.specs.declared.dims.Dim.TheVariants.{Range, Flood}
use Rattle.zpl_region.specs.declared.regions.Region.{Region}
use Rattle.zpl_region.specs.Ends.{single_of}
use Rattle.zpl_region.specs.Tests.{is_same_set}

-- a range with a single coordinate
abbrev pub is_single : Dim → Bool
is_single dim = is_some (single_of dim)

-- what a partial reduction collapses: where its target is flood or has a single coordinate
abbrev pub is_collapsed : Dim → Bool
is_collapsed (Range lo hi step align) = is_single (Range lo hi step align)
is_collapsed Flood = true

-- in a dimension the source has the target's set, or the target collapses it
abbrev pub dims_reduce : List Dim → List Dim → Bool
dims_reduce [] source = true
dims_reduce (t ∷ target) [] = true
dims_reduce (t ∷ target) (s ∷ source) = (is_same_set s t || is_collapsed t) && dims_reduce target source

-- in a dimension the source has a single coordinate, or the target's set
abbrev pub dims_spread : List Dim → List Dim → Bool
dims_spread [] source = true
dims_spread (t ∷ target) [] = true
dims_spread (t ∷ target) (s ∷ source) = (is_single s || is_same_set s t) && dims_spread target source

-- whether `op<<[source]` conforms under the target, and whether `>>[source]` does
abbrev pub reduction_conforms : Region → Region → Bool
reduction_conforms target source = dims_reduce target.dims source.dims

abbrev pub flood_conforms : Region → Region → Bool
flood_conforms target source = dims_spread target.dims source.dims

-- Reads that wrap round, `A@^d`: the array is read as if its home box were a torus.
use Rattle.std.specs.Prelude.{ℤ, pos, ◌+ℤ◌, ◌-ℤ◌, int_rem, if◌then◌else◌, List, [], ◌∷◌}
use Rattle.std.specs.Int.{int_rem_euclid}
use Rattle.zpl_region.specs.declared.dims.Dim.{Dim}
use Rattle.zpl_region.specs.declared.dims.Dim.TheVariants.{Range, Flood}
use Rattle.zpl_region.specs.declared.regions.Region.{Region}
use Rattle.zpl_region.specs.Dim.{extent}
use Rattle.zpl_region.specs.Ends.{has_none}
use Rattle.zpl_region.specs.Hull.{hull_with}
use Rattle.zpl_region.specs.Region.{moved}

-- over lo..hi: lo and the remainder, from 0 on, of x + d - lo by the extent. In a flood dimension
-- it is x
abbrev pub dim_around : ℤ → Dim → ℤ → ℤ
dim_around d (Range lo hi step align) x = lo +ℤ int_rem_euclid ((x +ℤ d) -ℤ lo) (pos (extent lo hi))
dim_around d Flood x = x

abbrev pub each_around : List ℤ → List Dim → List ℤ → List ℤ
each_around [] dims t = t
each_around (d ∷ v) [] t = t
each_around (d ∷ v) (dim ∷ dims) [] = []
each_around (d ∷ v) (dim ∷ dims) (x ∷ t) = dim_around d dim x ∷ each_around v dims t

-- the source of `A@^d` at a tuple, with A's home box
abbrev pub around_source : Region → List ℤ → List ℤ → List ℤ
around_source home d t = each_around d home.dims t

-- ---- the array from which such a read is made by an ordinary shift: its copy

-- the remainder of d by the extent, with the sign of d. In a flood dimension it is 0
abbrev pub dim_rest : ℤ → Dim → ℤ
dim_rest d (Range lo hi step align) = int_rem d (pos (extent lo hi))
dim_rest d Flood = pos 0

abbrev pub each_rest : List ℤ → List Dim → List ℤ
each_rest [] dims = []
each_rest (d ∷ v) [] = []
each_rest (d ∷ v) (dim ∷ dims) = dim_rest d dim ∷ each_rest v dims

abbrev pub zeros : List ℤ → List ℤ
zeros [] = []
zeros (d ∷ v) = pos 0 ∷ zeros v

-- the shift with which the copy is read: none over an empty home box
abbrev pub copy_shift : Region → List ℤ → List ℤ
copy_shift home d = if has_none home then zeros d else each_rest d home.dims

-- what stores the copy: the least box that has the home box and the moved home box within it
abbrev pub copy_storage : Region → List ℤ → Region
copy_storage home d = hull_with home (moved (copy_shift home d) home)

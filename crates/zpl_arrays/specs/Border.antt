-- The border statements: `wrap` and `reflect` set an array on `d of R` from source tuples in R.
use Rattle.std.specs.Prelude.{nat_le, Bool, true, ◌&&◌, ◌||◌, ℤ, pos, neg_ℤ, ◌+ℤ◌, ◌-ℤ◌, ◌*ℤ◌, int_lt, unsigned_abs, if◌then◌else◌, List, [], ◌∷◌, map}
use Rattle.std.specs.Ordering.{int_eq}
use Rattle.zpl_nums.specs.declared.ends.Border.{Border}
use Rattle.zpl_nums.specs.declared.ends.Border.TheVariants.{Wrap, Reflect}
use Rattle.zpl_region.specs.declared.dims.Dim.{Dim}
use Rattle.zpl_region.specs.declared.dims.Dim.TheVariants.{Range, Flood}
use Rattle.zpl_region.specs.declared.regions.Region.{Region}
use Rattle.zpl_region.specs.Dim.{extent}
use Rattle.zpl_region.specs.Region.{components, inside_of}

-- where the component isn't 0 the dimension has step 1 and an extent of at least its size
abbrev pub dim_border_conforms : ℤ → Dim → Bool
dim_border_conforms d (Range lo hi step align) =
    int_eq d (pos 0) || (int_eq step (pos 1) && nat_le (unsigned_abs d) (extent lo hi))
dim_border_conforms d Flood = int_eq d (pos 0)

abbrev pub each_border_conforms : List ℤ → List Dim → Bool
each_border_conforms [] dims = true
each_border_conforms (d ∷ v) [] = true
each_border_conforms (d ∷ v) (dim ∷ dims) = dim_border_conforms d dim && each_border_conforms v dims

abbrev pub border_conforms : List ℤ → Region → Bool
border_conforms d r = each_border_conforms (components r.rank d) r.dims

-- the source of the coordinate x: from the opposite side, an extent away, or mirrored at the near
-- bound
abbrev pub dim_border_source : Border → ℤ → Dim → ℤ → ℤ
dim_border_source kind d Flood x = x
dim_border_source Wrap d (Range lo hi step align) x =
    if int_lt (pos 0) d then x -ℤ pos (extent lo hi)
    else if int_lt d (pos 0) then x +ℤ pos (extent lo hi)
    else x
dim_border_source Reflect d (Range lo hi step align) x =
    if int_lt (pos 0) d then ((pos 2 *ℤ hi) +ℤ pos 1) -ℤ x
    else if int_lt d (pos 0) then ((pos 2 *ℤ lo) -ℤ pos 1) -ℤ x
    else x

abbrev pub each_border_source : Border → List ℤ → List Dim → List ℤ → List ℤ
each_border_source kind [] dims t = t
each_border_source kind (d ∷ v) [] t = t
each_border_source kind (d ∷ v) (dim ∷ dims) [] = []
each_border_source kind (d ∷ v) (dim ∷ dims) (x ∷ t) =
    dim_border_source kind d dim x ∷ each_border_source kind v dims t

-- the source of a tuple of `d of R`
abbrev pub border_source : Border → Region → List ℤ → List ℤ → List ℤ
border_source kind r d t = each_border_source kind (components r.rank d) r.dims t

-- the source tuples as a region: those along the opposite side, or along the same one
abbrev pub border_sources : Border → Region → List ℤ → Region
border_sources Wrap r d = inside_of (map neg_ℤ d) r
border_sources Reflect r d = inside_of d r

-- How many coordinates a dimension has, and its first and last one, by arithmetic on its bounds: no
-- list is made.
use Rattle.std.specs.Prelude.{ℕ, ◌+◌, ◌-◌, ◌*◌, ◌/◌, ◌==◌, Bool, Option, Some, None, ℤ, pos, ◌+ℤ◌, ◌-ℤ◌, unsigned_abs, if◌then◌else◌, List, [], ◌∷◌, map}
use Rattle.std.specs.Int.{int_rem_euclid}
use Rattle.zpl_region.specs.declared.dims.Dim.{Dim}
use Rattle.zpl_region.specs.declared.dims.Dim.TheVariants.{Range, Flood}
use Rattle.zpl_region.specs.declared.regions.Region.{Region}
use Rattle.zpl_region.specs.Dim.{extent}

-- the least number from lo on that differs from align by a multiple of step
abbrev pub first_from : ℤ → ℤ → ℤ → ℤ
first_from lo step align = lo +ℤ int_rem_euclid (align -ℤ lo) step

-- how many coordinates there are: the extent from the first one on, divided by the step, rounded up
abbrev pub coordinate_count : Dim → ℕ
coordinate_count (Range lo hi step align) =
    (extent (first_from lo step align) hi + (unsigned_abs step - 1)) / unsigned_abs step
coordinate_count Flood = 1

-- the first and the last coordinate, where there are any
abbrev pub first_of : Dim → ℤ
first_of (Range lo hi step align) = first_from lo step align
first_of Flood = pos 0

abbrev pub last_of : Dim → ℤ
last_of (Range lo hi step align) =
    first_from lo step align +ℤ pos ((coordinate_count (Range lo hi step align) - 1) * unsigned_abs step)
last_of Flood = pos 0

-- the coordinate of a range that has just one. The position of a flood dimension has none
abbrev pub single_of : Dim → Option ℤ
single_of (Range lo hi step align) =
    if coordinate_count (Range lo hi step align) == 1 then Some (first_from lo step align) else None
single_of Flood = None

-- how many tuples there are with a coordinate of each dimension
abbrev pub tuple_count : List Dim → ℕ
tuple_count [] = 1
tuple_count (dim ∷ dims) = coordinate_count dim * tuple_count dims

-- whether the region has no tuple
abbrev pub has_none : Region → Bool
has_none r = tuple_count r.dims == 0

-- the first and the last tuple in row-major order, if there is one
abbrev pub least_member : Region → Option (List ℤ)
least_member r = if has_none r then None else Some (map first_of r.dims)

abbrev pub greatest_member : Region → Option (List ℤ)
greatest_member r = if has_none r then None else Some (map last_of r.dims)

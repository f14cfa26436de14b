-- The coordinates of a dimension, and what the forms of a region make of it.
use Rattle.std.specs.Prelude.{◌≡◌, ℕ, ◌-◌, ◌^◌, Bool, true, ◌↔◌, ℤ, pos, neg_ℤ, ◌+ℤ◌, ◌-ℤ◌, ◌*ℤ◌, ◌≤ℤ◌, int_lt, int_rem, unsigned_abs, if◌then◌else◌, List, [], ◌∷◌, filter, length, slice_get, unwrap_or}
use Rattle.std.specs.Int.{int_max, int_min}
use Rattle.std.specs.Ordering.{int_eq}
use Rattle.zpl_region.specs.declared.dims.Dim.{Dim}
use Rattle.zpl_region.specs.declared.dims.Dim.TheVariants.{Range, Flood}
use Rattle.zpl_region.specs.Progression.{progression, is_between}

-- ---- coordinates

-- how many integers there are from lo to hi: hi - lo + 1, or 0 where that is negative
abbrev pub extent : ℤ → ℤ → ℕ
extent lo hi = unsigned_abs (int_max (pos 0) ((hi -ℤ lo) +ℤ pos 1))

-- the integers from lo to hi, in ascending order
abbrev pub integers : ℤ → ℤ → List ℤ
integers lo hi = progression lo 1 (extent lo hi)

-- z is a multiple of step, as a fact and as a test
abbrev pub IsMultiple : ℤ → ℤ → Type 0
IsMultiple step z = (q : ℤ) × (z ≡ q *ℤ step)

abbrev pub is_multiple : ℤ → ℤ → Bool
is_multiple step z = int_eq (int_rem z step) (pos 0)

-- x is a coordinate of the dimension: of a range it lies in the bounds and differs from the
-- alignment by a multiple of the step. The one position of a flood dimension has no coordinate, and
-- is written 0
abbrev pub IsCoordinate : Dim → ℤ → Type 0
IsCoordinate (Range lo hi step align) x = (lo ≤ℤ x) × (x ≤ℤ hi) × IsMultiple step (x -ℤ align)
IsCoordinate Flood x = x ≡ pos 0

-- the coordinates of the dimension, in ascending order
abbrev pub coordinates : Dim → List ℤ
coordinates (Range lo hi step align) = filter (λ x. is_multiple step (x -ℤ align)) (integers lo hi)
coordinates Flood = pos 0 ∷ []

-- the least and the greatest coordinate of a range, or the bound where it has none
abbrev pub least_or : ℤ → Dim → ℤ
least_or lo dim = unwrap_or (slice_get (coordinates dim) 0) lo

abbrev pub greatest_or : ℤ → Dim → ℤ
greatest_or hi dim = unwrap_or (slice_get (coordinates dim) (length (coordinates dim) - 1)) hi

-- two dimensions are the same set: two ranges have the same coordinates, or both are flood
abbrev pub IsSameSet : Dim → Dim → Type 0
IsSameSet Flood Flood = Unit {0}
IsSameSet Flood (Range lo hi step align) = ⊥
IsSameSet (Range lo hi step align) Flood = ⊥
IsSameSet (Range lo hi step align) (Range lo' hi' step' align') =
    (x : ℤ) → IsCoordinate (Range lo hi step align) x ↔ IsCoordinate (Range lo' hi' step' align') x

-- a coordinate of the dimension lies from lo to hi. That of a flood dimension lies everywhere
abbrev pub lies_within : ℤ → ℤ → Dim → ℤ → Bool
lies_within lo hi (Range from to step align) x = is_between lo hi x
lies_within lo hi Flood x = true

-- ---- what the calls ask of a dimension

-- a step is at least 1
abbrev pub HasStep : Dim → Type 0
HasStep (Range lo hi step align) = pos 1 ≤ℤ step
HasStep Flood = Unit {0}

-- z is from -2^k to 2^k
abbrev pub IsUpTo : ℕ → ℤ → Type 0
IsUpTo k z = (neg_ℤ (pos (2 ^ k)) ≤ℤ z) × (z ≤ℤ pos (2 ^ k))

-- bounds are from -2^40 to 2^40
abbrev pub HasBounds : Dim → Type 0
HasBounds (Range lo hi step align) = IsUpTo 40 lo × IsUpTo 40 hi
HasBounds Flood = Unit {0}

-- and alignments from -2^42 to 2^42
abbrev pub HasAlign : Dim → Type 0
HasAlign (Range lo hi step align) = IsUpTo 42 align
HasAlign Flood = Unit {0}

abbrev pub IsDim : Dim → Type 0
IsDim dim = HasStep dim × HasBounds dim × HasAlign dim

-- ---- the limit of the language: bounds from -2^31 to 2^31, steps up to 2^31, alignments from -2^40 to 2^40
abbrev pub IsDimWithinLimit : Dim → Type 0
IsDimWithinLimit (Range lo hi step align) = IsUpTo 31 lo × IsUpTo 31 hi × (step ≤ℤ pos (2 ^ 31)) × IsUpTo 40 align
IsDimWithinLimit Flood = Unit {0}

-- d is e, or both pass the limit
abbrev pub IsNear : Dim → Dim → Type 0
IsNear d e = (IsDimWithinLimit d → d ≡ e) × (IsDimWithinLimit e → d ≡ e)

-- ---- the forms of the language, for one component d of the vector

-- `of`: the d positions above hi, or below lo for a negative d
abbrev pub dim_outside_of : ℤ → Dim → Dim
dim_outside_of d Flood = Flood
dim_outside_of d (Range lo hi step align) =
    if int_lt (pos 0) d then Range (hi +ℤ pos 1) (hi +ℤ d) step align
    else if int_lt d (pos 0) then Range (lo +ℤ d) (lo -ℤ pos 1) step align
    else Range lo hi step align

-- `in`: the last d positions up to hi, or the first from lo on for a negative d
abbrev pub dim_inside_of : ℤ → Dim → Dim
dim_inside_of d Flood = Flood
dim_inside_of d (Range lo hi step align) =
    if int_lt (pos 0) d then Range ((hi -ℤ d) +ℤ pos 1) hi step align
    else if int_lt d (pos 0) then Range lo ((lo -ℤ d) -ℤ pos 1) step align
    else Range lo hi step align

-- `at`: bounds and alignment moved by d
abbrev pub dim_moved : ℤ → Dim → Dim
dim_moved d Flood = Flood
dim_moved d (Range lo hi step align) = Range (lo +ℤ d) (hi +ℤ d) step (align +ℤ d)

-- `by`: the step times the size of d, aligned with the least coordinate, or with the greatest for a
-- negative d
abbrev pub dim_strided : ℤ → Dim → Dim
dim_strided d Flood = Flood
dim_strided d (Range lo hi step align) =
    if int_lt (pos 0) d then Range lo hi (step *ℤ d) (least_or lo (Range lo hi step align))
    else if int_lt d (pos 0) then Range lo hi (step *ℤ neg_ℤ d) (greatest_or hi (Range lo hi step align))
    else Range lo hi step align

-- a coordinate of the dimension moved by d: a flood dimension has none to move
abbrev pub coordinate_moved : ℤ → Dim → ℤ → ℤ
coordinate_moved d (Range lo hi step align) x = x +ℤ d
coordinate_moved d Flood x = x

-- ---- the part of a dimension from lo to hi
abbrev pub dim_met : ℤ → ℤ → Dim → Dim
dim_met lo hi Flood = Flood
dim_met lo hi (Range from to step align) = Range (int_max from lo) (int_min to hi) step align

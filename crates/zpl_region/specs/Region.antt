-- The tuples of a region, its limit, and what the forms make of it.
use Rattle.std.specs.Prelude.{◌≡◌, ℕ, zero, suc, ◌-◌, ◌^◌, ◌≤◌, Bool, true, false, ◌&&◌, ◌||◌, ℤ, pos, neg_ℤ, ◌≤ℤ◌, int_lt, List, [], ◌∷◌, map, drop, replicate, length, slice_index_or, flat_map, All}
use Rattle.std.specs.Ordering.{int_eq}
use Rattle.std.specs.List.{AllZip}
use Rattle.zpl_region.specs.declared.dims.Dim.{Dim}
use Rattle.zpl_region.specs.declared.dims.Dim.TheVariants.{Range, Flood}
use Rattle.zpl_region.specs.declared.regions.Region.{Region}
use Rattle.zpl_region.specs.Dim.{IsDim, IsCoordinate, IsDimWithinLimit, coordinates, coordinate_moved, lies_within, dim_outside_of, dim_inside_of, dim_moved, dim_strided, dim_met}

-- ---- tuples

-- the tuples with one element of each list, in row-major order: the last element varies fastest
abbrev pub tuples : List (List ℤ) → List (List ℤ)
tuples [] = [] ∷ []
tuples (xs ∷ rest) = flat_map (λ x. map (λ t. x ∷ t) (tuples rest)) xs

-- the tuples of a region, in row-major order. A dimension past the rank has the one coordinate 0
abbrev pub members : Region → List (List ℤ)
members r = tuples (map coordinates r.dims)

-- t is a tuple of the region: each component is a coordinate of its dimension
abbrev pub IsMember : Region → List ℤ → Type 0
IsMember r t = AllZip IsCoordinate r.dims t

-- t stands before u in row-major order: it is less at the first place at which they differ
abbrev pub is_before : List ℤ → List ℤ → Bool
is_before [] u = false
is_before (x ∷ t) [] = false
is_before (x ∷ t) (y ∷ u) = int_lt x y || (int_eq x y && is_before t u)

-- the k-th dimension, k counted from 1
abbrev pub dim_at : Region → ℕ → Dim
dim_at r k = slice_index_or r.dims (k - 1) Flood

-- ---- what the calls ask of a region

-- what stands for a dimension past the rank: it has the one coordinate 0
abbrev pub padding : Dim
padding = Range (pos 0) (pos 0) (pos 1) (pos 0)

abbrev pub IsPadded : ℕ → List Dim → Type 0
IsPadded rank dims = drop rank dims ≡ replicate (3 - rank) padding

pub record IsRegion (r : Region) : Type 0 where
  pub rank_above : 1 ≤ r.rank
  pub rank_below : r.rank ≤ 3
  pub dims : All IsDim r.dims
  pub padded : IsPadded r.rank r.dims

-- ---- the limit of the language
pub record IsWithinLimit (r : Region) : Type 0 where
  pub dims : All IsDimWithinLimit r.dims
  pub points : length (members r) ≤ 4194304

-- ---- the forms of the language

-- a vector for a region of this rank: components past the rank count as 0
abbrev pub components : ℕ → List ℤ → List ℤ
components rank [] = []
components zero (x ∷ v) = pos 0 ∷ components zero v
components (suc rank) (x ∷ v) = x ∷ components rank v

-- each dimension changed by a form, with its component of the vector
abbrev pub each : (ℤ → Dim → Dim) → List ℤ → List Dim → List Dim
each form [] dims = dims
each form (d ∷ v) [] = []
each form (d ∷ v) (dim ∷ dims) = form d dim ∷ each form v dims

abbrev pub formed : (ℤ → Dim → Dim) → List ℤ → Region → Region
formed form d r = record { rank = r.rank; dims = each form (components r.rank d) r.dims }

-- `d of R`, `d in R`, `R at d` and `R by d`
abbrev pub outside_of : List ℤ → Region → Region
outside_of d r = formed dim_outside_of d r

abbrev pub inside_of : List ℤ → Region → Region
inside_of d r = formed dim_inside_of d r

abbrev pub moved : List ℤ → Region → Region
moved d r = formed dim_moved d r

abbrev pub strided : List ℤ → Region → Region
strided d r = formed dim_strided d r

-- a tuple of the region, moved as `R at d` moves the region
abbrev pub each_coordinate_moved : List ℤ → List Dim → List ℤ → List ℤ
each_coordinate_moved [] dims t = t
each_coordinate_moved (d ∷ v) [] t = t
each_coordinate_moved (d ∷ v) (dim ∷ dims) [] = []
each_coordinate_moved (d ∷ v) (dim ∷ dims) (x ∷ t) = coordinate_moved d dim x ∷ each_coordinate_moved v dims t

abbrev pub tuple_moved : List ℤ → Region → List ℤ → List ℤ
tuple_moved d r t = each_coordinate_moved (components r.rank d) r.dims t

-- ---- boxes, from lo to hi in each dimension up to the rank

abbrev pub each_met : List ℤ → List ℤ → List Dim → List Dim
each_met [] hi dims = dims
each_met (l ∷ lo) [] dims = dims
each_met (l ∷ lo) (h ∷ hi) [] = []
each_met (l ∷ lo) (h ∷ hi) (dim ∷ dims) = dim_met l h dim ∷ each_met lo hi dims

-- the box begins up to 2^40 and ends from -2^40 on, so that the part of a region in it has bounds
-- from -2^40 to 2^40
abbrev pub HasReach : List ℤ → List ℤ → Type 0
HasReach lo hi = All (λ z. z ≤ℤ pos (2 ^ 40)) lo × All (λ z. neg_ℤ (pos (2 ^ 40)) ≤ℤ z) hi

-- the part of a region in a box
abbrev pub met : List ℤ → List ℤ → Region → Region
met lo hi r = record { rank = r.rank; dims = each_met (components r.rank lo) (components r.rank hi) r.dims }

abbrev pub each_lies_within : List ℤ → List ℤ → List Dim → List ℤ → Bool
each_lies_within [] hi dims t = true
each_lies_within (l ∷ lo) [] dims t = true
each_lies_within (l ∷ lo) (h ∷ hi) [] t = true
each_lies_within (l ∷ lo) (h ∷ hi) (dim ∷ dims) [] = true
each_lies_within (l ∷ lo) (h ∷ hi) (dim ∷ dims) (x ∷ t) = lies_within l h dim x && each_lies_within lo hi dims t

-- a tuple of the region lies in a box
abbrev pub lies_in_box : List ℤ → List ℤ → Region → List ℤ → Bool
lies_in_box lo hi r t = each_lies_within (components r.rank lo) (components r.rank hi) r.dims t

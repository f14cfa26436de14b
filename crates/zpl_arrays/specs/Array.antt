-- An array: its storage, and its values in row-major order of the storage's tuples.
use Rattle.std.specs.Prelude.{◌≡◌, ℕ, ◌+◌, ◌*◌, ◌/◌, Bool, true, false, ◌&&◌, ℤ, pos, ◌-ℤ◌, unsigned_abs, if◌then◌else◌, List, [], ◌∷◌, map, set, length, slice_index_or, All}
use Rattle.zpl_region.specs.declared.dims.Dim.{Dim}
use Rattle.zpl_region.specs.declared.dims.Dim.TheVariants.{Range, Flood}
use Rattle.zpl_region.specs.declared.regions.Region.{Region}
use Rattle.zpl_region.specs.Dim.{HasStep}
use Rattle.zpl_region.specs.Ends.{first_of, tuple_count}
use Rattle.zpl_region.specs.Region.{members}
use Rattle.zpl_region.specs.Tests.{is_coordinate}

pub record Array : Type 0 where
  pub storage : Region
  pub values : List ℤ

-- there is a value for each tuple, and steps are at least 1
pub record IsArray (a : Array) : Type 0 where
  pub filled : length a.values ≡ length (members a.storage)
  pub steps : All HasStep a.storage.dims

-- the array with the value f t at each tuple t of the storage
abbrev pub array_of : Region → (List ℤ → ℤ) → Array
array_of storage f = record { storage = storage; values = map f (members storage) }

-- whether the storage has a place for the tuple: whatever the coordinate is in its flood dimensions
abbrev pub each_has_place : List Dim → List ℤ → Bool
each_has_place [] [] = true
each_has_place [] (x ∷ t) = false
each_has_place (dim ∷ dims) [] = false
each_has_place (Flood ∷ dims) (x ∷ t) = each_has_place dims t
each_has_place (Range lo hi step align ∷ dims) (x ∷ t) = is_coordinate (Range lo hi step align) x && each_has_place dims t

abbrev pub has_place : Region → List ℤ → Bool
has_place storage t = each_has_place storage.dims t

-- the tuple with 0 in the storage's flood dimensions
abbrev pub flattened : List Dim → List ℤ → List ℤ
flattened [] t = t
flattened (dim ∷ dims) [] = []
flattened (Flood ∷ dims) (x ∷ t) = pos 0 ∷ flattened dims t
flattened (Range lo hi step align ∷ dims) (x ∷ t) = x ∷ flattened dims t

-- the place of a coordinate among those of its dimension, and of a tuple in row-major order, both
-- counted from 0
abbrev pub place_along : Dim → ℤ → ℕ
place_along (Range lo hi step align) x =
    unsigned_abs (x -ℤ first_of (Range lo hi step align)) / unsigned_abs step
place_along Flood x = 0

abbrev pub place_among : List Dim → List ℤ → ℕ
place_among [] t = 0
place_among (dim ∷ dims) [] = 0
place_among (dim ∷ dims) (x ∷ t) = place_along dim x * tuple_count dims + place_among dims t

-- the value at a tuple: coordinates of flood dimensions count as 0. Outside the storage it is 0
abbrev pub element : Array → List ℤ → ℤ
element a t =
    if has_place a.storage t then slice_index_or a.values (place_among a.storage.dims t) (pos 0) else pos 0

-- the array with another value at a tuple that has a place
abbrev pub updated : Array → List ℤ → ℤ → Array
updated a t value = record a { values = set a.values (place_among a.storage.dims t) value }

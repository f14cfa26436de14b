-- Where a reference lies: the region under which an array is read or written, moved by the
-- reference's shift, within the array's storage. A read that wraps round is checked unmoved, within
-- the home box.
use Rattle.std.specs.Prelude.{Bool, true, false, ◌&&◌, ◌||◌, ℤ, List, [], ◌∷◌}
use Rattle.zpl_region.specs.declared.dims.Dim.{Dim}
use Rattle.zpl_region.specs.declared.dims.Dim.TheVariants.{Range, Flood}
use Rattle.zpl_region.specs.declared.regions.Region.{Region}
use Rattle.zpl_region.specs.Ends.{has_none}
use Rattle.zpl_region.specs.Region.{moved}
use Rattle.zpl_region.specs.Tests.{is_dim_in_box}

-- the coordinates lie from the storage's lower bound to its upper one. Everything lies in a flood
-- dimension of the storage, and a flood dimension in no range
abbrev pub dim_lies_in : Dim → Dim → Bool
dim_lies_in dim Flood = true
dim_lies_in Flood (Range lo hi step align) = false
dim_lies_in (Range from to every base) (Range lo hi step align) = is_dim_in_box lo hi (Range from to every base)

abbrev pub each_lies_in : List Dim → List Dim → Bool
each_lies_in [] storage = true
each_lies_in (dim ∷ dims) [] = true
each_lies_in (dim ∷ dims) (place ∷ storage) = dim_lies_in dim place && each_lies_in dims storage

-- whether a region lies in a box, as a region without tuples does in each
abbrev pub lies_in : Region → Region → Bool
lies_in r box = has_none r || each_lies_in r.dims box.dims

-- whether the reference `A@d` under the region lies in A's storage
abbrev pub is_reference : List ℤ → Region → Region → Bool
is_reference d r storage = lies_in (moved d r) storage

-- no flood dimension of the region meets a range of the box
abbrev pub IsCovered : Dim → Dim → Type 0
IsCovered dim Flood = Unit {0}
IsCovered Flood (Range lo hi step align) = ⊥
IsCovered (Range from to every base) (Range lo hi step align) = Unit {0}

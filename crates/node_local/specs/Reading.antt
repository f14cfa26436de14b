-- What is read of a store by the tuples of its box.
use Rattle.std.specs.Prelude.{Bool, true, ◌&&◌, ℤ, pos, List, [], ◌∷◌, Option}
use Rattle.std.specs.Ordering.{int_eq}
use Rattle.grid_meaning.specs.of_zpl_region.declared.dims.Dim.{Dim}
use Rattle.grid_meaning.specs.of_zpl_region.declared.dims.Dim.TheVariants.{Range, Flood}
use Rattle.grid_meaning.specs.of_zpl_region.Tests.{is_member}
use Rattle.grid_meaning.specs.of_zpl_arrays.Array.{Array, element}
use Rattle.grid_meaning.specs.Place.{where_held}

-- the value at a tuple of the box
abbrev pub boxed_value : List ℤ → Array → Option ℤ
boxed_value t array = where_held (is_member array.storage t) (element array t)

-- the position of a flood dimension is written 0
abbrev pub is_flat_coordinate : Dim → ℤ → Bool
is_flat_coordinate (Range lo hi step align) x = true
is_flat_coordinate Flood x = int_eq x (pos 0)

abbrev pub is_flat : List Dim → List ℤ → Bool
is_flat [] t = true
is_flat (dim ∷ dims) [] = true
is_flat (Range lo hi step align ∷ dims) (x ∷ t) = is_flat dims t
is_flat (Flood ∷ dims) (x ∷ t) = int_eq x (pos 0) && is_flat dims t

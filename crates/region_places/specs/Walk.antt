-- Ranges of step 1.
use Rattle.std.specs.Prelude.{◌≡◌, ℤ, ◌≤ℤ◌}
use Rattle.zpl_arrays.specs.of_zpl_region.declared.dims.Dim.{Dim}
use Rattle.zpl_arrays.specs.of_zpl_region.Dim.{coordinates, integers}

-- the coordinates of the dimension are the integers from lo to hi
pub record IsOnes (dim : Dim) (lo hi : ℤ) : Type 0 where
  pub all : coordinates dim ≡ integers lo hi

-- and x is one of them
pub record HasAmong (dim : Dim) (lo hi x : ℤ) : Type 0 where
  pub all : coordinates dim ≡ integers lo hi
  pub low : lo ≤ℤ x
  pub high : x ≤ℤ hi

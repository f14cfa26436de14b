-- A store in memory: the places of an array that a processor holds, and their values in a row.
--
--   IsFlat     its places are ranges of step 1 and flood dimensions, there is a value for each, and
--              so many coordinates are counted in the second dimension and in the third
--   place_in   where the value of a tuple stands, if the tuple has a place
--   StandsFor  a number is another one as far as the bounds tell that a box may have
use Rattle.std.specs.Prelude.{◌≡◌, ℕ, ℤ, List, [], ◌∷◌, drop, length, map, Option, All}
use Rattle.grid_meaning.specs.of_zpl_region.declared.regions.Region.{Region}
use Rattle.grid_meaning.specs.of_zpl_region.Dim.{IsUpTo}
use Rattle.grid_meaning.specs.of_zpl_region.Ends.{coordinate_count, tuple_count}
use Rattle.grid_meaning.specs.of_zpl_region.Hull.{IsBoxed}
use Rattle.grid_meaning.specs.of_zpl_arrays.Array.{has_place, place_among}
use Rattle.grid_meaning.specs.of_grid_layout.Layout.{HasWideBounds}
use Rattle.grid_meaning.specs.Place.{where_held}

pub record IsFlat (storage : Region) (rows columns : ℕ) (values : List ℤ) : Type 0 where
  pub boxed : All IsBoxed storage.dims
  pub bounds : All HasWideBounds storage.dims
  pub filled : length values ≡ tuple_count storage.dims
  pub counted : map coordinate_count (drop 1 storage.dims) ≡ rows ∷ columns ∷ []

abbrev pub place_in : Region → List ℤ → Option ℕ
place_in storage t = where_held (has_place storage t) (place_among storage.dims t)

pub record StandsFor (m z : ℤ) : Type 0 where
  pub kept : IsUpTo 41 z → m ≡ z
  pub told : IsUpTo 41 m → m ≡ z

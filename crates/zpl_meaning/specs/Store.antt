-- What the names of a program stand for, and what its variables hold.
use Rattle.std.specs.Prelude.{ℕ, ℤ, pos, List, [], Option, find, take, length, slice_index_or}
use Rattle.std.specs.Prelude.{slice_set}
use Rattle.std.specs.Option.{option_map}
use Rattle.std.specs.Str.{bytes_eq}
use Rattle.zpl_binding.specs.of_zpl_region.declared.regions.Region.{Region}
use Rattle.zpl_binding.specs.of_zpl_arrays.Array.{Array}
use Rattle.zpl_binding.specs.Regions.{no_region}

-- What a name stands for: a scalar variable or an array, each by its place in the store, or the
-- value of a config or a constant. An array has its home box, the hull of the region that it is
-- declared over.
pub data Thing : Type 0 where
  Scalar : (place : ℕ) → Thing
  ArrayAt : (place : ℕ) (home : Region) → Thing
  Fixed : (value : ℤ) → Thing

abbrev pub Names : Type 0
Names = List (List ℕ × Thing)

-- the names in reach, each with what it stands for; of two equal names the first counts
pub record Environment : Type 0 where
  pub names : Names

abbrev pub thing_of : Environment → List ℕ → Option Thing
thing_of environment name =
    option_map (λ entry. entry.1) (find (λ entry. bytes_eq entry.0 name) environment.names)

-- the values of the scalars and the arrays, by their places; a truth value is 0 or 1
pub record Store : Type 0 where
  pub scalars : List ℤ
  pub arrays : List Array

abbrev pub empty_store : Store
empty_store = record { scalars = []; arrays = [] }

abbrev pub scalar_at : Store → ℕ → ℤ
scalar_at store place = slice_index_or store.scalars place (pos 0)

-- the store with another value at one place
abbrev pub with_scalar : Store → ℕ → ℤ → Store
with_scalar store place value = record store { scalars = slice_set store.scalars place value }

-- each array that a name stands for is there; one that isn't counts as an array without values
abbrev pub no_array : Array
no_array = record { storage = no_region; values = [] }

abbrev pub array_at : Store → ℕ → Array
array_at store place = slice_index_or store.arrays place no_array

abbrev pub with_array : Store → ℕ → Array → Store
with_array store place array = record store { arrays = slice_set store.arrays place array }

-- the store without what has come behind the places of an earlier one
abbrev pub cut_back : Store → Store → Store
cut_back earlier store = record {
  scalars = take (length earlier.scalars) store.scalars;
  arrays = take (length earlier.arrays) store.arrays;
}

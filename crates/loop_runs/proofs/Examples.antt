-- Why a whole array that has places needs the flood dimensions of its row: a temporary with a flood
-- dimension, where its row has a range, passes the tests of a flat loop, and holds one value for two
-- tuples. The share of a processor holds two.
use Rattle.std.proofs.Common.{◌≡◌, refl, true, false, List, [], ◌∷◌, ℤ, pos, Option, Some}
use Rattle.std.specs.Prelude.{option_and_then}
use Rattle.zpl_region.specs.declared.dims.Dim.TheVariants as dim
use Rattle.zpl_region.specs.declared.regions.Region.{Region}
use Rattle.zpl_region.specs.Region.{padding}
use Rattle.zpl_arrays.specs.Array.{Array}
use Rattle.node_form.specs.declared.arrays.ArrayDim.TheVariants.{Range}
use Rattle.node_form.specs.declared.arrays.ArrayRow.{ArrayRow}
use Rattle.grid_meaning.specs.Place.{value_at, with_values}
use Rattle.flat_form.specs.Right.{writes_well}

abbrev row : ArrayRow
row = record {
  rank = 1;
  dims = Range (pos 0) (pos 0) (pos 0) (pos 0) ∷ Range (pos 0) (pos 0) (pos 0) (pos 0)
      ∷ Range (pos 0) (pos 0) (pos 0) (pos 0) ∷ [];
  stored = false;
}

abbrev region : Region
region = record {
  rank = 1;
  dims = dim.Range (pos 1) (pos 2) (pos 1) (pos 1) ∷ padding ∷ padding ∷ [];
}

-- the temporary of the whole state, and that of a processor
abbrev one_value : Array
one_value = record {
  storage = record { rank = 1; dims = dim.Flood ∷ padding ∷ padding ∷ [] };
  values = pos 0 ∷ [];
}

abbrev two_values : Array
two_values = record { storage = region; values = pos 0 ∷ pos 0 ∷ [] }

abbrev first : List ℤ
first = pos 1 ∷ pos 0 ∷ pos 0 ∷ []

abbrev second : List ℤ
second = pos 2 ∷ pos 0 ∷ pos 0 ∷ []

-- at the first tuple, once 1 is put there, and 2 at the second one
abbrev at_first : Array → Option ℤ
at_first store =
    option_and_then (λ stores. value_at stores 0 first)
    (with_values 0 (first ∷ second ∷ []) (pos 1 ∷ pos 2 ∷ []) (store ∷ []))

may_be_put : writes_well (Some row) (Some one_value) region ≡ true
may_be_put = refl

whole_has : at_first one_value ≡ Some (pos 2)
whole_has = refl

processor_has : at_first two_values ≡ Some (pos 1)
processor_has = refl

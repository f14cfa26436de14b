-- Why arrays that have places have the flood dimensions of their rows (`HasFloodsOf`): a value that
-- is put at one place of the whole array, and at the one place of a flood dimension on a processor,
-- would leave the two apart.
use Rattle.std.specs.Prelude.{◌≡◌, ℤ, pos, true, List, [], ◌∷◌}
use Rattle.std.proofs.Common.{refl}
use Rattle.zpl_region.specs.declared.dims.Dim.TheVariants as dim
use Rattle.zpl_region.specs.Hull.{all_from}
use Rattle.zpl_region.specs.Region.{padding}
use Rattle.zpl_arrays.specs.Array.{Array, element, has_place, updated}

abbrev at_zero : List ℤ
at_zero = pos 0 ∷ pos 0 ∷ pos 0 ∷ []

abbrev at_one : List ℤ
at_one = pos 1 ∷ pos 0 ∷ pos 0 ∷ []

-- two places on the one side, and one on the other
abbrev wide : Array
wide = record {
  storage = record { rank = 1; dims = all_from (pos 0) (pos 1) ∷ padding ∷ padding ∷ [] };
  values = pos 7 ∷ pos 7 ∷ [];
}

abbrev flood : Array
flood = record {
  storage = record { rank = 1; dims = dim.Flood ∷ padding ∷ padding ∷ [] };
  values = pos 7 ∷ [];
}

wide_holds : has_place wide.storage at_one ≡ true
wide_holds = refl

flood_holds : has_place flood.storage at_one ≡ true
flood_holds = refl

alike_before : element wide at_one ≡ element flood at_one
alike_before = refl

wide_behind : element (updated wide at_zero (pos 5)) at_one ≡ pos 7
wide_behind = refl

flood_behind : element (updated flood at_zero (pos 5)) at_one ≡ pos 5
flood_behind = refl

-- The ends, the tests and the hull, computed on regions of which no list could be made.
use Rattle.std.proofs.Common.{◌≡◌, true, false, [], ◌∷◌, Some, None, pos, negsuc, refl}
use Rattle.zpl_region.specs.declared.dims.Dim.{Dim}
use Rattle.zpl_region.specs.declared.dims.Dim.TheVariants.{Range, Flood}
use Rattle.zpl_region.specs.declared.regions.Region.{Region}
use Rattle.zpl_region.specs.Ends.{coordinate_count, first_of, last_of, single_of, least_member, greatest_member}
use Rattle.zpl_region.specs.Hull.{hull, hull_with}
use Rattle.zpl_region.specs.Region.{padding}
use Rattle.zpl_region.specs.Tests.{is_in_box, is_member, is_same_set, is_within_limit}

-- 0..8 with a step of 3 that has 1
thirds : Dim
thirds = Range (pos 0) (pos 8) (pos 3) (pos 1)

three_of_them : coordinate_count thirds ≡ 3
unfolding thirds
three_of_them = refl

first_is_one : first_of thirds ≡ pos 1
unfolding thirds
first_is_one = refl

last_is_seven : last_of thirds ≡ pos 7
unfolding thirds
last_is_seven = refl

none_of_them : coordinate_count (Range (pos 1) (pos 2) (pos 5) (pos 0)) ≡ 0
none_of_them = refl

below_zero : coordinate_count (Range (negsuc 3) (pos 2) (pos 4) (pos 7)) ≡ 1
below_zero = refl

only_four : single_of (Range (pos 3) (pos 5) (pos 7) (pos 4)) ≡ Some (pos 4)
only_four = refl

flood_has_none : single_of Flood ≡ None
flood_has_none = refl

long_line : Region
long_line = record { rank = 1; dims = Range (pos 1) (pos 3000000000) (pos 1) (pos 1) ∷ padding ∷ padding ∷ [] }

too_long : is_within_limit long_line ≡ false
unfolding long_line
too_long = refl

has_the_last : is_member long_line (pos 3000000000 ∷ pos 0 ∷ pos 0 ∷ []) ≡ true
unfolding long_line
has_the_last = refl

not_in_a_box : is_in_box (pos 1 ∷ pos 0 ∷ pos 0 ∷ []) (pos 2999999999 ∷ pos 0 ∷ pos 0 ∷ []) long_line ≡ false
unfolding long_line
not_in_a_box = refl

the_same_evens : is_same_set (Range (pos 2) (pos 2000000001) (pos 2) (pos 0)) (Range (pos 1) (pos 2000000000) (pos 2) (pos 4)) ≡ true
the_same_evens = refl

zero_is_no_flood : is_same_set (Range (pos 0) (pos 0) (pos 1) (pos 0)) Flood ≡ false
zero_is_no_flood = refl

plane : Region
plane = record { rank = 2; dims = thirds ∷ Range (pos 2) (pos 9) (pos 5) (pos 9) ∷ padding ∷ [] }

ends_of_plane : least_member plane ≡ Some (pos 1 ∷ pos 4 ∷ pos 0 ∷ [])
unfolding plane thirds
ends_of_plane = refl

greatest_of_plane : greatest_member plane ≡ Some (pos 7 ∷ pos 9 ∷ pos 0 ∷ [])
unfolding plane thirds
greatest_of_plane = refl

hull_of_plane : (hull plane).dims ≡ Range (pos 1) (pos 7) (pos 1) (pos 1) ∷ Range (pos 4) (pos 9) (pos 1) (pos 4) ∷ padding ∷ []
unfolding plane thirds
hull_of_plane = refl

hull_of_none : (hull (record { rank = 2; dims = Range (pos 5) (pos 4) (pos 2) (pos 0) ∷ Range (pos 3) (pos 7) (pos 1) (pos 3) ∷ padding ∷ [] })).dims
    ≡ Range (pos 1) (pos 0) (pos 1) (pos 1) ∷ Range (pos 1) (pos 0) (pos 1) (pos 1) ∷ padding ∷ []
hull_of_none = refl

with_a_border : (hull_with plane (record { rank = 2; dims = Range (pos 9) (pos 12) (pos 1) (pos 9) ∷ Range (pos 2) (pos 3) (pos 1) (pos 2) ∷ padding ∷ [] })).dims
    ≡ Range (pos 1) (pos 12) (pos 1) (pos 1) ∷ Range (pos 2) (pos 9) (pos 1) (pos 2) ∷ padding ∷ []
unfolding plane thirds
with_a_border = refl

-- The definitions, computed on small regions.
use Rattle.std.proofs.Common.{◌≡◌, true, [], ◌∷◌, pos, negsuc, refl}
use Rattle.zpl_region.specs.declared.dims.Dim.{Dim}
use Rattle.zpl_region.specs.declared.dims.Dim.TheVariants.{Range, Flood}
use Rattle.zpl_region.specs.Dim.{coordinates, dim_inside_of, dim_moved, dim_outside_of, dim_strided, extent}
use Rattle.zpl_region.specs.Region.{components, is_before, members, padding}

-- 0..8 with a step of 3 that has 1
thirds : Dim
thirds = Range (pos 0) (pos 8) (pos 3) (pos 1)

extent_of_nine : extent (pos 0) (pos 8) ≡ 9
extent_of_nine = refl

extent_of_none : extent (pos 5) (negsuc 3) ≡ 0
extent_of_none = refl

one_four_seven : coordinates thirds ≡ pos 1 ∷ pos 4 ∷ pos 7 ∷ []
unfolding thirds
one_four_seven = refl

aligned_outside : coordinates (Range (negsuc 3) (pos 2) (pos 4) (pos 7)) ≡ negsuc 0 ∷ []
aligned_outside = refl

no_coordinate : coordinates (Range (pos 1) (pos 2) (pos 5) (pos 0)) ≡ []
no_coordinate = refl

flood_has_one : coordinates Flood ≡ pos 0 ∷ []
flood_has_one = refl

two_outside : dim_outside_of (pos 2) thirds ≡ Range (pos 9) (pos 10) (pos 3) (pos 1)
unfolding thirds
two_outside = refl

two_outside_below : dim_outside_of (negsuc 1) thirds ≡ Range (negsuc 1) (negsuc 0) (pos 3) (pos 1)
unfolding thirds
two_outside_below = refl

two_inside : dim_inside_of (pos 2) thirds ≡ Range (pos 7) (pos 8) (pos 3) (pos 1)
unfolding thirds
two_inside = refl

two_inside_below : dim_inside_of (negsuc 1) thirds ≡ Range (pos 0) (pos 1) (pos 3) (pos 1)
unfolding thirds
two_inside_below = refl

moved_down : dim_moved (negsuc 1) thirds ≡ Range (negsuc 1) (pos 6) (pos 3) (negsuc 0)
unfolding thirds
moved_down = refl

every_second : dim_strided (pos 2) thirds ≡ Range (pos 0) (pos 8) (pos 6) (pos 1)
unfolding thirds
every_second = refl

every_second_from_the_greatest : dim_strided (negsuc 1) thirds ≡ Range (pos 0) (pos 8) (pos 6) (pos 7)
unfolding thirds
every_second_from_the_greatest = refl

stride_of_none : dim_strided (pos 3) (Range (pos 5) (pos 4) (pos 2) (pos 0)) ≡ Range (pos 5) (pos 4) (pos 6) (pos 5)
stride_of_none = refl

two_by_two : members (record { rank = 2; dims = Range (pos 1) (pos 2) (pos 1) (pos 1) ∷ Range (pos 0) (pos 5) (pos 5) (pos 0) ∷ padding ∷ [] })
    ≡ (pos 1 ∷ pos 0 ∷ pos 0 ∷ []) ∷ (pos 1 ∷ pos 5 ∷ pos 0 ∷ []) ∷ (pos 2 ∷ pos 0 ∷ pos 0 ∷ []) ∷ (pos 2 ∷ pos 5 ∷ pos 0 ∷ []) ∷ []
two_by_two = refl

flood_above : members (record { rank = 2; dims = Flood ∷ Range (pos 3) (pos 4) (pos 1) (pos 3) ∷ padding ∷ [] }) ≡ (pos 0 ∷ pos 3 ∷ pos 0 ∷ []) ∷ (pos 0 ∷ pos 4 ∷ pos 0 ∷ []) ∷ []
flood_above = refl

rows_first : is_before (pos 1 ∷ pos 5 ∷ pos 0 ∷ []) (pos 2 ∷ pos 0 ∷ pos 0 ∷ []) ≡ true
rows_first = refl

past_the_rank : components 1 (pos 4 ∷ pos 5 ∷ pos 6 ∷ []) ≡ pos 4 ∷ pos 0 ∷ pos 0 ∷ []
past_the_rank = refl

-- The definitions, computed on small regions.
use Rattle.std.proofs.Common.{◌≡◌, ℕ, Bool, true, false, List, [], ◌∷◌, ◌++◌, map, ℤ, pos, negsuc, ◌+ℤ◌, ◌-ℤ◌, ◌*ℤ◌, slice_index_or, refl}
use Rattle.std.specs.Prelude.{codes}
use Rattle.std.specs.Fmt.{digits}
use Rattle.std.specs.Int.{int_wrap}
use Rattle.zpl_nums.specs.declared.ends.Border.TheVariants.{Wrap, Reflect}
use Rattle.zpl_nums.specs.declared.folds.Fold.TheVariants.{Sum, Max}
use Rattle.zpl_nums.specs.Integer.{least}
use Rattle.zpl_region.specs.declared.dims.Dim.{Dim}
use Rattle.zpl_region.specs.declared.dims.Dim.TheVariants.{Range, Flood}
use Rattle.zpl_region.specs.declared.regions.Region.{Region}
use Rattle.zpl_region.specs.Hull.{all_from}
use Rattle.zpl_region.specs.Region.{members, outside_of, padding, strided}
use Rattle.zpl_arrays.specs.Around.{around_source, copy_shift, copy_storage}
use Rattle.zpl_arrays.specs.AroundCopy.{around_copy}
use Rattle.zpl_arrays.specs.Array.{array_of, element, has_place}
use Rattle.zpl_arrays.specs.ArrayText.{array_text, number_text, truth_text}
use Rattle.zpl_arrays.specs.Border.{border_conforms, border_source, border_sources}
use Rattle.zpl_arrays.specs.Conformity.{flood_conforms, reduction_conforms}
use Rattle.zpl_arrays.specs.Flood.{flood_source}
use Rattle.zpl_arrays.specs.Fold.{partly_reduced, reduced}
use Rattle.zpl_arrays.specs.Line.{line_through, masked_value}
use Rattle.zpl_arrays.specs.Reference.{is_reference, lies_in}
use Rattle.zpl_arrays.specs.Row.{running}
use Rattle.zpl_arrays.specs.Scan.{scanned, scanned_along}

abbrev line : ℤ → ℤ → Region
line lo hi = record { rank = 1; dims = all_from lo hi ∷ padding ∷ padding ∷ [] }

abbrev plane : Dim → Dim → Region
plane a b = record { rank = 2; dims = a ∷ b ∷ padding ∷ [] }

-- the tuple of one coordinate, of two, of three
abbrev at1 : ℤ → List ℤ
at1 x = x ∷ pos 0 ∷ pos 0 ∷ []

abbrev at2 : ℤ → ℤ → List ℤ
at2 x y = x ∷ y ∷ pos 0 ∷ []

abbrev coordinate : ℕ → List ℤ → ℤ
coordinate k t = slice_index_or t k (pos 0)

-- nothing is masked out
abbrev all : List ℤ → Bool
all t = true

wrapped_above : map (border_source Wrap (line (pos 1) (pos 3)) (at1 (pos 3))) (members (outside_of (at1 (pos 3)) (line (pos 1) (pos 3)))) ≡ at1 (pos 1) ∷ at1 (pos 2) ∷ at1 (pos 3) ∷ []
wrapped_above = refl

mirrored_below : map (border_source Reflect (line (pos 1) (pos 3)) (at1 (negsuc 2))) (members (outside_of (at1 (negsuc 2)) (line (pos 1) (pos 3)))) ≡ at1 (pos 3) ∷ at1 (pos 2) ∷ at1 (pos 1) ∷ []
mirrored_below = refl

wrapped_below : map (border_source Wrap (line (pos 1) (pos 3)) (at1 (negsuc 1))) (members (outside_of (at1 (negsuc 1)) (line (pos 1) (pos 3)))) ≡ at1 (pos 2) ∷ at1 (pos 3) ∷ []
wrapped_below = refl

mirrored_above : map (border_source Reflect (line (pos 1) (pos 3)) (at1 (pos 2))) (members (outside_of (at1 (pos 2)) (line (pos 1) (pos 3)))) ≡ at1 (pos 3) ∷ at1 (pos 2) ∷ []
mirrored_above = refl

-- 1 2 3 with a mirrored border below and a wrapped one above
both_borders : map (element (array_of (line (pos 1) (pos 3)) (coordinate 0)))
    (map (border_source Reflect (line (pos 1) (pos 3)) (at1 (negsuc 2))) (members (outside_of (at1 (negsuc 2)) (line (pos 1) (pos 3)))) ++ (members (line (pos 1) (pos 3))
    ++ map (border_source Wrap (line (pos 1) (pos 3)) (at1 (pos 3))) (members (outside_of (at1 (pos 3)) (line (pos 1) (pos 3))))))
    ≡ pos 3 ∷ pos 2 ∷ pos 1 ∷ pos 1 ∷ pos 2 ∷ pos 3 ∷ pos 1 ∷ pos 2 ∷ pos 3 ∷ []
both_borders = refl

three_conforms : border_conforms (at1 (pos 3)) (line (pos 1) (pos 3)) ≡ true
three_conforms = refl

four_is_too_wide : border_conforms (at1 (pos 4)) (line (pos 1) (pos 3)) ≡ false
four_is_too_wide = refl

no_border_of_a_stride : border_conforms (at1 (pos 1)) (record { rank = 1; dims = Range (pos 1) (pos 9) (pos 2) (pos 1) ∷ padding ∷ padding ∷ [] }) ≡ false
no_border_of_a_stride = refl

sources_above : members (border_sources Wrap (line (pos 1) (pos 5)) (at1 (pos 2))) ≡ at1 (pos 1) ∷ at1 (pos 2) ∷ []
sources_above = refl

sources_below : members (border_sources Reflect (line (pos 1) (pos 5)) (at1 (negsuc 1))) ≡ at1 (pos 1) ∷ at1 (pos 2) ∷ []
sources_below = refl

-- ---- scans of 10 * Index1 + Index2 on [1..4, 1..6] by [2, 3]
abbrev strided_plane : Region
strided_plane = strided (at2 (pos 2) (pos 3)) (plane (all_from (pos 1) (pos 4)) (all_from (pos 1) (pos 6)))

abbrev ten_and_one : List ℤ → ℤ
ten_and_one t = (pos 10 *ℤ coordinate 0 t) +ℤ coordinate 1 t

scan_of_all : array_text number_text strided_plane (scanned Sum strided_plane all ten_and_one) ≡ codes "11 25\n56 90\n"
unfolding int_wrap digits
scan_of_all = refl

scan_along_one : array_text number_text strided_plane (scanned_along 1 Sum strided_plane all ten_and_one) ≡ codes "11 14\n42 48\n"
unfolding int_wrap digits
scan_along_one = refl

-- ---- reductions
reduced_line : reduced Sum (line (pos 1) (pos 10)) all (coordinate 0) ≡ pos 55
unfolding int_wrap
reduced_line = refl

greatest_of_none : reduced Max (line (pos 1) (pos 0)) all (coordinate 0) ≡ least
greatest_of_none = refl

masked_line : reduced Sum (line (pos 1) (pos 4)) (λ t. has_place (line (pos 2) (pos 3)) t) (coordinate 0) ≡ pos 5
unfolding int_wrap
masked_line = refl

abbrev two_by_three : Region
two_by_three = plane (all_from (pos 1) (pos 2)) (all_from (pos 1) (pos 3))

abbrev first_column : Region
first_column = plane (all_from (pos 1) (pos 2)) (all_from (pos 1) (pos 1))

row_sums : array_text number_text first_column (partly_reduced Sum first_column two_by_three ten_and_one) ≡ codes "36\n66\n"
unfolding int_wrap digits
row_sums = refl

column_conforms : reduction_conforms first_column two_by_three ≡ true
column_conforms = refl

flood_column_conforms : reduction_conforms (plane (all_from (pos 1) (pos 2)) Flood) two_by_three ≡ true
flood_column_conforms = refl

two_columns_don't : reduction_conforms (plane (all_from (pos 1) (pos 2)) (all_from (pos 1) (pos 2))) two_by_three ≡ false
two_columns_don't = refl

-- ---- floods
third_column : flood_source (plane (all_from (pos 1) (pos 2)) (all_from (pos 3) (pos 3))) (at2 (pos 2) (pos 0)) ≡ at2 (pos 2) (pos 3)
third_column = refl

column_floods : flood_conforms (plane (all_from (pos 1) (pos 2)) Flood) (plane (all_from (pos 1) (pos 2)) (all_from (pos 3) (pos 3))) ≡ true
column_floods = refl

plane_doesn't_flood : flood_conforms (plane (all_from (pos 1) (pos 2)) Flood) two_by_three ≡ false
plane_doesn't_flood = refl

-- ---- references
within_its_storage : is_reference (at1 (pos 7)) (line (pos 1) (pos 9)) (line (pos 1) (pos 16)) ≡ true
within_its_storage = refl

outside_its_storage : is_reference (at1 (pos 1)) (line (pos 1) (pos 4)) (line (pos 1) (pos 4)) ≡ false
outside_its_storage = refl

none_lies_everywhere : is_reference (at1 (pos 1)) (line (pos 1) (pos 0)) (line (pos 1) (pos 0)) ≡ true
none_lies_everywhere = refl

flood_of_the_storage_aside : lies_in two_by_three (plane Flood (all_from (pos 1) (pos 3))) ≡ true
flood_of_the_storage_aside = refl

no_flood_in_a_range : lies_in (plane Flood (all_from (pos 1) (pos 3))) two_by_three ≡ false
no_flood_in_a_range = refl

-- ---- arrays
flood_counts_as_zero : element (array_of (plane Flood (all_from (pos 1) (pos 3))) (coordinate 1)) (at2 (pos 8) (pos 2)) ≡ pos 2
flood_counts_as_zero = refl

zero_outside : element (array_of two_by_three ten_and_one) (at2 (pos 3) (pos 1)) ≡ pos 0
zero_outside = refl

every_third : element (array_of strided_plane ten_and_one) (at2 (pos 3) (pos 4)) ≡ pos 34
every_third = refl

-- ---- reads that wrap round
next_around : map (around_source (line (pos 1) (pos 5)) (at1 (pos 1))) (members (line (pos 1) (pos 5))) ≡ at1 (pos 2) ∷ at1 (pos 3) ∷ at1 (pos 4) ∷ at1 (pos 5) ∷ at1 (pos 1) ∷ []
next_around = refl

far_around : map (around_source (line (pos 1) (pos 5)) (at1 (negsuc 6))) (members (line (pos 1) (pos 5))) ≡ at1 (pos 4) ∷ at1 (pos 5) ∷ at1 (pos 1) ∷ at1 (pos 2) ∷ at1 (pos 3) ∷ []
far_around = refl

around_a_plane : array_text number_text two_by_three (λ t. ten_and_one (around_source two_by_three (at2 (pos 1) (pos 1)) t)) ≡ codes "22 23 21\n12 13 11\n"
unfolding digits
around_a_plane = refl

shift_of_the_copy : copy_shift (line (pos 1) (pos 5)) (at1 (negsuc 6)) ≡ at1 (negsuc 1)
shift_of_the_copy = refl

storage_of_the_copy : (copy_storage (line (pos 1) (pos 5)) (at1 (negsuc 6))).dims ≡ all_from (negsuc 0) (pos 5) ∷ padding ∷ padding ∷ []
storage_of_the_copy = refl

-- 4 5 around the home box, and 1 2 3 4 5 over it
values_of_the_copy : map (element (around_copy (line (pos 1) (pos 5)) (at1 (negsuc 6)) (array_of (line (pos 1) (pos 5)) (coordinate 0)))) (members (copy_storage (line (pos 1) (pos 5)) (at1 (negsuc 6))))
    ≡ pos 4 ∷ pos 5 ∷ pos 1 ∷ pos 2 ∷ pos 3 ∷ pos 4 ∷ pos 5 ∷ []
values_of_the_copy = refl

-- ---- lines
second_line : line_through 2 strided_plane (at2 (pos 3) (pos 4)) ≡ at2 (pos 3) (pos 1) ∷ at2 (pos 3) (pos 4) ∷ []
second_line = refl

scan_of_second_line : running Sum (pos 25) (map (masked_value all ten_and_one) (line_through 2 strided_plane (at2 (pos 3) (pos 4)))) ≡ pos 56 ∷ pos 90 ∷ []
unfolding int_wrap
scan_of_second_line = refl

-- ---- texts
space_of_two : array_text number_text (record { rank = 3; dims = all_from (pos 1) (pos 2) ∷ all_from (pos 1) (pos 2) ∷ all_from (pos 1) (pos 2) ∷ [] }) (λ t. ((pos 4 *ℤ coordinate 0 t) +ℤ (pos 2 *ℤ coordinate 1 t)) +ℤ coordinate 2 t)
    ≡ codes "7 8\n9 10\n\n11 12\n13 14\n\n"
unfolding digits
space_of_two = refl

line_of_truths : array_text truth_text (line (pos 1) (pos 3)) (λ t. coordinate 0 t -ℤ pos 2) ≡ codes "true false true"
line_of_truths = refl

nothing_of_empty_lines : array_text number_text (plane (all_from (pos 1) (pos 3)) (all_from (pos 1) (pos 0))) ten_and_one ≡ []
nothing_of_empty_lines = refl

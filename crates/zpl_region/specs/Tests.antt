-- What is asked of dimensions and regions, as tests. They compare bounds and counts, and walk no
-- range.
use Rattle.std.specs.Prelude.{ℕ, ◌^◌, ◌==◌, nat_le, Bool, true, false, ◌&&◌, ◌||◌, ℤ, pos, neg_ℤ, ◌-ℤ◌, int_le, List, [], ◌∷◌}
use Rattle.std.specs.List.{list_all}
use Rattle.std.specs.Ordering.{int_eq}
use Rattle.zpl_region.specs.declared.dims.Dim.{Dim}
use Rattle.zpl_region.specs.declared.dims.Dim.TheVariants.{Range, Flood}
use Rattle.zpl_region.specs.declared.regions.Region.{Region}
use Rattle.zpl_region.specs.Dim.{is_multiple}
use Rattle.zpl_region.specs.Progression.{is_between}
use Rattle.zpl_region.specs.Region.{components}
use Rattle.zpl_region.specs.Ends.{coordinate_count, first_of, last_of, has_none, tuple_count}

-- ---- membership
abbrev pub is_coordinate : Dim → ℤ → Bool
is_coordinate (Range lo hi step align) x = is_between lo hi x && is_multiple step (x -ℤ align)
is_coordinate Flood x = int_eq x (pos 0)

abbrev pub are_coordinates : List Dim → List ℤ → Bool
are_coordinates [] [] = true
are_coordinates [] (x ∷ t) = false
are_coordinates (dim ∷ dims) [] = false
are_coordinates (dim ∷ dims) (x ∷ t) = is_coordinate dim x && are_coordinates dims t

-- whether t is a tuple of the region
abbrev pub is_member : Region → List ℤ → Bool
is_member r t = are_coordinates r.dims t

-- ---- same sets

-- m numbers from f on with a step of s, and n numbers from g on with a step of u, are the same:
-- there are none, or they begin with the same one, and that is the only one or the steps are the
-- same
abbrev pub same_numbers : ℕ → ℤ → ℤ → ℕ → ℤ → ℤ → Bool
same_numbers m f s n g u = (m == n) && ((m == 0) || (int_eq f g && ((m == 1) || int_eq s u)))

abbrev pub is_same_set : Dim → Dim → Bool
is_same_set Flood Flood = true
is_same_set Flood (Range lo hi step align) = false
is_same_set (Range lo hi step align) Flood = false
is_same_set (Range lo hi step align) (Range lo' hi' step' align') =
    same_numbers (coordinate_count (Range lo hi step align)) (first_of (Range lo hi step align)) step
    (coordinate_count (Range lo' hi' step' align')) (first_of (Range lo' hi' step' align')) step'

-- ---- the limit of the language
abbrev pub is_up_to : ℕ → ℤ → Bool
is_up_to k z = is_between (neg_ℤ (pos (2 ^ k))) (pos (2 ^ k)) z

abbrev pub is_dim_within_limit : Dim → Bool
is_dim_within_limit (Range lo hi step align) =
    is_up_to 31 lo && (is_up_to 31 hi && (int_le step (pos (2 ^ 31)) && is_up_to 40 align))
is_dim_within_limit Flood = true

abbrev pub is_within_limit : Region → Bool
is_within_limit r = list_all is_dim_within_limit r.dims && nat_le (tuple_count r.dims) 4194304

-- ---- boxes

-- whether the coordinates lie from lo to hi. That of a flood dimension lies everywhere
abbrev pub is_dim_in_box : ℤ → ℤ → Dim → Bool
is_dim_in_box lo hi (Range from to step align) =
    (coordinate_count (Range from to step align) == 0)
    || (int_le lo (first_of (Range from to step align)) && int_le (last_of (Range from to step align)) hi)
is_dim_in_box lo hi Flood = true

abbrev pub each_is_in_box : List ℤ → List ℤ → List Dim → Bool
each_is_in_box [] hi dims = true
each_is_in_box (l ∷ lo) [] dims = true
each_is_in_box (l ∷ lo) (h ∷ hi) [] = true
each_is_in_box (l ∷ lo) (h ∷ hi) (dim ∷ dims) = is_dim_in_box l h dim && each_is_in_box lo hi dims

-- whether all tuples of the region lie in the box from lo to hi, as those of a region without
-- tuples do
abbrev pub is_in_box : List ℤ → List ℤ → Region → Bool
is_in_box lo hi r = has_none r || each_is_in_box (components r.rank lo) (components r.rank hi) r.dims

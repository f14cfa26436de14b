-- Partial folds and trees, computed on small rows.
use Rattle.std.proofs.Common.{◌≡◌, refl, List, [], ◌∷◌, Some, None, map, get_or, ℤ, pos, ◌+ℤ◌, ◌*ℤ◌}
use Rattle.std.specs.Int.{int_wrap}
use Rattle.std.specs.List.{flat_map}
use Rattle.region_places.specs.of_zpl_nums.declared.folds.Fold.TheVariants.{Sum, Max}
use Rattle.grid_layout.specs.of_zpl_region.declared.dims.Dim.{Dim}
use Rattle.grid_layout.specs.of_zpl_region.declared.dims.Dim.TheVariants.{Flood}
use Rattle.grid_layout.specs.of_zpl_region.declared.regions.Region.{Region}
use Rattle.grid_layout.specs.of_zpl_region.Hull.{all_from}
use Rattle.grid_layout.specs.of_zpl_region.Region.{padding}
use Rattle.region_places.specs.of_zpl_arrays.Array.{array_of}
use Rattle.reduce_plan.specs.Partial.{partials_of}
use Rattle.reduce_plan.specs.Tree.{children_of, parent_of}

abbrev plane : Dim → Dim → Region
plane rows columns = record { rank = 2; dims = rows ∷ columns ∷ padding ∷ [] }

abbrev ten_and_one : List ℤ → ℤ
ten_and_one t = (pos 10 *ℤ get_or t 0 (pos 0)) +ℤ get_or t 1 (pos 0)

abbrev first_column : Region
first_column = plane (all_from (pos 1) (pos 2)) (all_from (pos 1) (pos 1))

-- 36 / 66, the sums of the rows of 11 12 13 / 21 22 23: 23 / 43 from two columns, and 13 / 23 from the third
two_columns : partials_of Sum first_column first_column (array_of (plane (all_from (pos 1) (pos 2)) (all_from (pos 1) (pos 2))) ten_and_one) ≡ pos 23 ∷ pos 43 ∷ []
unfolding int_wrap
two_columns = refl

third_column : partials_of Sum first_column first_column (array_of (plane (all_from (pos 1) (pos 2)) (all_from (pos 3) (pos 3))) ten_and_one) ≡ pos 13 ∷ pos 23 ∷ []
unfolding int_wrap
third_column = refl

-- a block of the second row alone reaches the second index alone
second_row : partials_of Sum first_column first_column (array_of (plane (all_from (pos 2) (pos 2)) (all_from (pos 1) (pos 3))) ten_and_one) ≡ pos 66 ∷ []
unfolding int_wrap
second_row = refl

-- a flood column is reached as a single one is
flood_column : partials_of Max (plane (all_from (pos 1) (pos 2)) Flood) (plane (all_from (pos 1) (pos 2)) Flood) (array_of (plane (all_from (pos 1) (pos 2)) (all_from (pos 1) (pos 3))) ten_and_one) ≡ pos 13 ∷ pos 23 ∷ []
flood_column = refl

-- a block without tuples reaches nothing
no_rows : partials_of Sum first_column first_column (array_of (plane (all_from (pos 1) (pos 0)) (all_from (pos 1) (pos 3))) ten_and_one) ≡ []
no_rows = refl

-- regions that don't conform: a target with two columns out of three is reached where it is
two_of_three : partials_of Sum (plane (all_from (pos 1) (pos 2)) (all_from (pos 1) (pos 2))) (plane (all_from (pos 1) (pos 1)) (all_from (pos 0) (pos 2))) (array_of (plane (all_from (pos 1) (pos 2)) (all_from (pos 1) (pos 3))) ten_and_one) ≡ pos 11 ∷ pos 12 ∷ []
unfolding int_wrap
two_of_three = refl

-- the tree over six processors
parents : map parent_of (0 ∷ 1 ∷ 2 ∷ 3 ∷ 4 ∷ 5 ∷ []) ≡ None ∷ Some 0 ∷ Some 0 ∷ Some 1 ∷ Some 1 ∷ Some 2 ∷ []
parents = refl

all_children : flat_map (λ p. children_of p 6) (0 ∷ 1 ∷ 2 ∷ 3 ∷ []) ≡ Some 1 ∷ Some 2 ∷ Some 3 ∷ Some 4 ∷ Some 5 ∷ None ∷ None ∷ None ∷ []
all_children = refl

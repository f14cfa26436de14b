-- The lines of a region along a dimension, and their values in a row.
use Rattle.std.specs.Prelude.{ℕ, zero, suc, ◌-◌, Bool, false, ◌&&◌, Option, Some, None, if◌then◌else◌, ℤ, List, [], ◌∷◌, filter}
use Rattle.std.specs.Ordering.{int_eq}
use Rattle.zpl_region.specs.declared.regions.Region.{Region}
use Rattle.zpl_region.specs.Region.{members}
use Rattle.zpl_arrays.specs.Scan.{is_same_tuple}

-- t is x but in the k-th coordinate, k counted from 0
abbrev pub is_on_line : ℕ → List ℤ → List ℤ → Bool
is_on_line k [] t = false
is_on_line k (x ∷ xs) [] = false
is_on_line zero (x ∷ xs) (y ∷ t) = is_same_tuple xs t
is_on_line (suc k) (x ∷ xs) (y ∷ t) = int_eq y x && is_on_line k xs t

-- the region's tuples on the line through x along the k-th dimension, k counted from 1, in
-- ascending order
abbrev pub line_through : ℕ → Region → List ℤ → List (List ℤ)
line_through k r x = filter (is_on_line (k - 1) x) (members r)

-- the value of e, or none where it is masked out
abbrev pub masked_value : (List ℤ → Bool) → (List ℤ → ℤ) → List ℤ → Option ℤ
masked_value is_kept e t = if is_kept t then Some (e t) else None

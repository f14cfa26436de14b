-- Scans: the fold up to and with a tuple, in row-major order or along one dimension.
use Rattle.std.specs.Prelude.{ℕ, zero, suc, ◌-◌, Bool, true, false, not, ◌&&◌, ◌||◌, ℤ, int_le, int_lt, List, [], ◌∷◌}
use Rattle.std.specs.Ordering.{int_eq}
use Rattle.zpl_nums.specs.declared.folds.Fold.{Fold}
use Rattle.zpl_region.specs.declared.regions.Region.{Region}
use Rattle.zpl_region.specs.Region.{is_before, members}
use Rattle.zpl_arrays.specs.Fold.{kept_fold}

-- t doesn't stand after x
abbrev pub is_through : List ℤ → List ℤ → Bool
is_through x t = not (is_before x t)

-- `op||e` at x: over the tuples of the region, not masked out, up to and with x
abbrev pub scanned : Fold → Region → (List ℤ → Bool) → (List ℤ → ℤ) → List ℤ → ℤ
scanned op r is_kept e x = kept_fold op (λ t. is_kept t && is_through x t) e (members r)

-- the tuples are the same
abbrev pub is_same_tuple : List ℤ → List ℤ → Bool
is_same_tuple [] [] = true
is_same_tuple [] (y ∷ t) = false
is_same_tuple (x ∷ xs) [] = false
is_same_tuple (x ∷ xs) (y ∷ t) = int_eq y x && is_same_tuple xs t

-- t is x but in the k-th coordinate, k counted from 0, which is at most that of x
abbrev pub is_up_along : ℕ → List ℤ → List ℤ → Bool
is_up_along k [] t = false
is_up_along k (x ∷ xs) [] = false
is_up_along zero (x ∷ xs) (y ∷ t) = int_le y x && is_same_tuple xs t
is_up_along (suc k) (x ∷ xs) (y ∷ t) = int_eq y x && is_up_along k xs t

-- `op||[k]e` at x, k counted from 1
abbrev pub scanned_along : ℕ → Fold → Region → (List ℤ → Bool) → (List ℤ → ℤ) → List ℤ → ℤ
scanned_along k op r is_kept e x = kept_fold op (λ t. is_kept t && is_up_along (k - 1) x t) e (members r)

-- ---- the parts of a scan

-- t is on an earlier line than x, lines running along the dimension that follows the first k
abbrev pub is_earlier_line : ℕ → List ℤ → List ℤ → Bool
is_earlier_line zero x t = false
is_earlier_line (suc k) [] t = false
is_earlier_line (suc k) (x ∷ xs) [] = false
is_earlier_line (suc k) (x ∷ xs) (y ∷ t) = int_lt y x || (int_eq y x && is_earlier_line k xs t)

-- the k-th coordinate, k counted from 0, is below low
abbrev pub is_below : ℕ → ℤ → List ℤ → Bool
is_below k low [] = false
is_below zero low (y ∷ t) = int_lt y low
is_below (suc k) low (y ∷ t) = is_below k low t

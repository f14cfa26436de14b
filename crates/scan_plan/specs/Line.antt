-- Lines of a region: the tuples that differ in the coordinate of one dimension alone, and their
-- totals.
use Rattle.std.specs.Prelude.{ℕ, zero, suc, ◌+◌, ◌-◌, ◌*◌, ◌/◌, ◌%◌, ◌==◌, Bool, false, ◌&&◌, if◌then◌else◌, Option, Some, None, ℤ, List, [], ◌∷◌, map, filter, slice_index_or}
use Rattle.std.specs.Ordering.{int_eq}
use Rattle.zpl_nums.specs.declared.folds.Fold.{Fold}
use Rattle.zpl_nums.specs.Fold.{folded}
use Rattle.zpl_region.specs.declared.dims.Dim.{Dim}
use Rattle.zpl_region.specs.declared.dims.Dim.TheVariants.{Range, Flood}
use Rattle.zpl_region.specs.declared.regions.Region.{Region}
use Rattle.zpl_region.specs.Ends.{coordinate_count, first_of}
use Rattle.zpl_region.specs.Hull.{all_from}
use Rattle.zpl_region.specs.Region.{members}
use Rattle.zpl_arrays.specs.Array.{place_among}
use Rattle.zpl_arrays.specs.Row.{kept_values}
use Rattle.zpl_arrays.specs.Scan.{is_same_tuple}

-- the dimension along which the lines of a scan run, counted from 0: the last one for a scan in
-- row-major order, which is `along` 0, and else `along` counted from 1
abbrev pub line_dim : ℕ → ℕ → ℕ
line_dim rank zero = rank - 1
line_dim rank (suc k) = k

-- t is x but in the k-th coordinate, k counted from 0
abbrev pub is_along : ℕ → List ℤ → List ℤ → Bool
is_along k [] t = false
is_along k (x ∷ xs) [] = false
is_along zero (x ∷ xs) (y ∷ t) = is_same_tuple xs t
is_along (suc k) (x ∷ xs) (y ∷ t) = int_eq y x && is_along k xs t

-- ---- the first tuples of the lines, which are a region too: its k-th dimension has its first coordinate alone
abbrev pub first_alone : Dim → Dim
first_alone (Range lo hi step align) =
    if coordinate_count (Range lo hi step align) == 0 then Range lo hi step align
    else all_from (first_of (Range lo hi step align)) (first_of (Range lo hi step align))
first_alone Flood = Flood

abbrev pub changed_at : ℕ → (Dim → Dim) → List Dim → List Dim
changed_at k change [] = []
changed_at zero change (dim ∷ dims) = change dim ∷ dims
changed_at (suc k) change (dim ∷ dims) = dim ∷ changed_at k change dims

abbrev pub heads : ℕ → Region → Region
heads k r = record { rank = r.rank; dims = changed_at k first_alone r.dims }

-- the first tuple of the line on which x is
abbrev pub head_of : ℕ → List Dim → List ℤ → List ℤ
head_of k [] x = x
head_of k (dim ∷ dims) [] = []
head_of zero (dim ∷ dims) (x ∷ xs) = first_of dim ∷ xs
head_of (suc k) (dim ∷ dims) (x ∷ xs) = x ∷ head_of k dims xs

-- the number of the line of the tuple at a place, where lines have n tuples, each `inner` places
-- behind the one before it
abbrev pub line_number : ℕ → ℕ → ℕ → ℕ
line_number n inner i = i / (n * inner) * inner + i % inner

-- ---- totals

-- the value at a tuple, if it isn't masked out: the values stand in row-major order
abbrev pub value_at : Region → List (Option ℤ) → List ℤ → Option ℤ
value_at r values t = slice_index_or values (place_among r.dims t) None

-- the values of a function, those aside that a mask leaves out
abbrev pub masked : (List ℤ → Bool) → (List ℤ → ℤ) → List ℤ → Option ℤ
masked is_kept e t = if is_kept t then Some (e t) else None

-- the fold over the values at some tuples, those aside that are masked out
abbrev pub fold_at : Fold → (List ℤ → Option ℤ) → List (List ℤ) → ℤ
fold_at op value tuples = folded op (kept_values (map value tuples))

-- the total of the line that begins with h
abbrev pub line_total : Fold → ℕ → Region → (List ℤ → Option ℤ) → List ℤ → ℤ
line_total op k r value h = fold_at op value (filter (is_along k h) (members r))

-- the totals of all lines, in the row-major order of their first tuples
abbrev pub totals_of : Fold → ℕ → Region → (List ℤ → Option ℤ) → List ℤ
totals_of op k r value = map (line_total op k r value) (members (heads k r))

-- Reductions: the fold over a region's tuples, and over those that agree with a tuple.
use Rattle.std.specs.Prelude.{Bool, true, ◌&&◌, ◌||◌, ℤ, List, [], ◌∷◌, map, filter}
use Rattle.std.specs.Ordering.{int_eq}
use Rattle.zpl_nums.specs.declared.folds.Fold.{Fold}
use Rattle.zpl_nums.specs.Fold.{folded}
use Rattle.zpl_region.specs.declared.dims.Dim.{Dim}
use Rattle.zpl_region.specs.declared.regions.Region.{Region}
use Rattle.zpl_region.specs.Region.{members}
use Rattle.zpl_arrays.specs.Conformity.{is_collapsed}

-- the fold of e over the elements that are kept
abbrev pub kept_fold : {X : Type 0} → Fold → (X → Bool) → (X → ℤ) → List X → ℤ
kept_fold op is_kept e xs = folded op (map e (filter is_kept xs))

-- `op<<e`: over the tuples of the region that aren't masked out
abbrev pub reduced : Fold → Region → (List ℤ → Bool) → (List ℤ → ℤ) → ℤ
reduced op r is_kept e = kept_fold op is_kept e (members r)

-- t and x have the same coordinate in each dimension that the target doesn't collapse
abbrev pub agrees : List Dim → List ℤ → List ℤ → Bool
agrees [] x t = true
agrees (dim ∷ target) [] t = true
agrees (dim ∷ target) (x ∷ xs) [] = true
agrees (dim ∷ target) (x ∷ xs) (y ∷ t) = (is_collapsed dim || int_eq y x) && agrees target xs t

-- `op<<[source] e` at x: over the tuples of the source that agree with x. The source is never
-- masked
abbrev pub partly_reduced : Fold → Region → Region → (List ℤ → ℤ) → List ℤ → ℤ
partly_reduced op target source e x = kept_fold op (agrees target.dims x) e (members source)

-- Totals and scans of 11 14 / 31 34 cut in two, computed on small rows.
use Rattle.std.proofs.Common.{◌≡◌, refl, List, [], ◌∷◌, Some, None, Option, ℤ, pos}
use Rattle.std.specs.Int.{int_wrap}
use Rattle.zpl_nums.specs.declared.folds.Fold.TheVariants.{Sum}
use Rattle.zpl_region.specs.declared.dims.Dim.{Dim}
use Rattle.zpl_region.specs.declared.regions.Region.{Region}
use Rattle.zpl_region.specs.Hull.{all_from}
use Rattle.zpl_region.specs.Region.{padding}
use Rattle.scan_plan.specs.Line.{totals_of, value_at}

abbrev plane : Dim → Dim → Region
plane rows columns = record { rank = 2; dims = rows ∷ columns ∷ padding ∷ [] }

abbrev whole : Region
whole = plane (all_from (pos 1) (pos 2)) (all_from (pos 1) (pos 2))

abbrev values : List (Option ℤ)
values = Some (pos 11) ∷ Some (pos 14) ∷ Some (pos 31) ∷ Some (pos 34) ∷ []

along_rows : totals_of Sum 1 whole (value_at whole values) ≡ pos 25 ∷ pos 65 ∷ []
unfolding int_wrap
along_rows = refl

along_columns : totals_of Sum 0 whole (value_at whole values) ≡ pos 42 ∷ pos 48 ∷ []
unfolding int_wrap
along_columns = refl

-- a masked-out value is left out
one_masked : totals_of Sum 1 whole (value_at whole (Some (pos 11) ∷ None ∷ Some (pos 31) ∷ Some (pos 34) ∷ [])) ≡ pos 11 ∷ pos 65 ∷ []
unfolding int_wrap
one_masked = refl

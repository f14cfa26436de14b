-- The least box around the tuples of a region, and around those of two regions.
use Rattle.std.specs.Prelude.{◌≡◌, ℕ, zero, suc, ℤ, pos, if◌then◌else◌, List, [], ◌∷◌, map}
use Rattle.std.specs.List.{AllZip}
use Rattle.std.specs.Int.{int_max, int_min}
use Rattle.zpl_region.specs.declared.dims.Dim.{Dim}
use Rattle.zpl_region.specs.declared.dims.Dim.TheVariants.{Range, Flood}
use Rattle.zpl_region.specs.declared.regions.Region.{Region}
use Rattle.zpl_region.specs.Region.{IsRegion}
use Rattle.zpl_region.specs.Ends.{first_of, last_of, has_none}

-- the numbers from lo to hi. A box has such ranges, and flood dimensions
abbrev pub all_from : ℤ → ℤ → Dim
all_from lo hi = Range lo hi (pos 1) lo

abbrev pub IsBoxed : Dim → Type 0
IsBoxed (Range lo hi step align) = (step ≡ pos 1) × (align ≡ lo)
IsBoxed Flood = Unit {0}

-- from the first coordinate to the last. A flood dimension stays flood
abbrev pub dim_hull : Dim → Dim
dim_hull (Range lo hi step align) = all_from (first_of (Range lo hi step align)) (last_of (Range lo hi step align))
dim_hull Flood = Flood

-- no coordinate, where it is a range
abbrev pub dim_emptied : Dim → Dim
dim_emptied (Range lo hi step align) = all_from (pos 1) (pos 0)
dim_emptied Flood = Flood

-- no coordinate in the ranges up to the rank
abbrev pub emptied : ℕ → List Dim → List Dim
emptied zero dims = dims
emptied (suc rank) [] = []
emptied (suc rank) (dim ∷ dims) = dim_emptied dim ∷ emptied rank dims

-- the hull of a region's tuples. That of no tuples is `1..0` in each range
abbrev pub hull : Region → Region
hull r = record { rank = r.rank; dims = if has_none r then emptied r.rank r.dims else map dim_hull r.dims }

-- ---- around two regions
abbrev pub dim_hull_with : Dim → Dim → Dim
dim_hull_with Flood e = Flood
dim_hull_with (Range lo hi step align) Flood = Flood
dim_hull_with (Range lo hi step align) (Range lo' hi' step' align') =
    all_from (int_min (first_of (Range lo hi step align)) (first_of (Range lo' hi' step' align')))
    (int_max (last_of (Range lo hi step align)) (last_of (Range lo' hi' step' align')))

-- both are ranges, or both are flood
abbrev pub IsSameKind : Dim → Dim → Type 0
IsSameKind Flood Flood = Unit {0}
IsSameKind Flood (Range lo hi step align) = ⊥
IsSameKind (Range lo hi step align) Flood = ⊥
IsSameKind (Range lo hi step align) (Range lo' hi' step' align') = Unit {0}

-- two regions of the same rank with the same flood dimensions
pub record AreAlike (r s : Region) : Type 0 where
  pub here : IsRegion r
  pub there : IsRegion s
  pub ranks : r.rank ≡ s.rank
  pub kinds : AllZip IsSameKind r.dims s.dims

abbrev pub each_hull_with : List Dim → List Dim → List Dim
each_hull_with [] es = []
each_hull_with (d ∷ ds) [] = []
each_hull_with (d ∷ ds) (e ∷ es) = dim_hull_with d e ∷ each_hull_with ds es

abbrev pub hull_with : Region → Region → Region
hull_with r s =
    if has_none s then hull r
    else if has_none r then hull s
    else record { rank = r.rank; dims = each_hull_with r.dims s.dims }

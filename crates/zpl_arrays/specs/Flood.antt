-- The source of a flood `>>[S] e` at a tuple.
use Rattle.std.specs.Prelude.{ℤ, List, [], ◌∷◌, unwrap_or}
use Rattle.zpl_region.specs.declared.dims.Dim.{Dim}
use Rattle.zpl_region.specs.declared.regions.Region.{Region}
use Rattle.zpl_region.specs.Ends.{single_of}

-- the source's coordinate where it has a single one, and else the tuple's
abbrev pub dim_flood_source : Dim → ℤ → ℤ
dim_flood_source dim x = unwrap_or (single_of dim) x

abbrev pub each_flood_source : List Dim → List ℤ → List ℤ
each_flood_source [] t = []
each_flood_source (dim ∷ dims) [] = []
each_flood_source (dim ∷ dims) (x ∷ t) = dim_flood_source dim x ∷ each_flood_source dims t

abbrev pub flood_source : Region → List ℤ → List ℤ
flood_source source t = each_flood_source source.dims t

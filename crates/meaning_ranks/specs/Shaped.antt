-- Regions that have the rank and the flood dimensions of a shape of the text.
use Rattle.std.specs.Prelude.{◌≡◌, ℕ, Bool, true, false, List, [], ◌∷◌, length, Option, Some, None}
use Rattle.zpl_region.specs.declared.dims.Dim.{Dim}
use Rattle.zpl_region.specs.declared.dims.Dim.TheVariants.{Range, Flood}
use Rattle.zpl_region.specs.declared.regions.Region.{Region}
use Rattle.meaning_runs.specs.of_zpl_names.Kinds.{Shape}
use Rattle.meaning_runs.specs.of_zpl_meaning.Context.{Over, Currents}

abbrev pub is_flood : Dim → Bool
is_flood (Range lo hi step align) = false
is_flood Flood = true

-- the dimensions are flood where the shape is
abbrev pub AreFloods : Shape → List Dim → Type 0
AreFloods [] dims = Unit {0}
AreFloods (flood ∷ shape) [] = ⊥
AreFloods (flood ∷ shape) (dim ∷ dims) = (is_flood dim ≡ flood) × AreFloods shape dims

pub record IsShaped (shape : Shape) (region : Region) : Type 0 where
  pub rank : region.rank ≡ length shape
  pub floods : AreFloods shape region.dims

-- ---- current regions

abbrev pub IsOverOf : ℕ → Option Over → Type 0
IsOverOf rank None = Unit {0}
IsOverOf rank (Some over) = over.region.rank ≡ rank

-- each has the rank whose current region it is
pub record HaveTheirRanks (currents : Currents) : Type 0 where
  pub one : IsOverOf 1 currents.one
  pub two : IsOverOf 2 currents.two
  pub three : IsOverOf 3 currents.three

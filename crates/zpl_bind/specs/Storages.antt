-- Storages, with the borders of the parts of a text.
use Rattle.std.specs.Prelude.{◌≡◌, ℕ, Bool, true, false, List, [], ◌∷◌, map, filter, flat_map}
use Rattle.std.specs.Str.{bytes_eq}
use Rattle.zpl_region.specs.declared.dims.Dim.{Dim}
use Rattle.zpl_region.specs.declared.dims.Dim.TheVariants.{Range, Flood}
use Rattle.zpl_region.specs.declared.regions.Region.{Region}
use Rattle.zpl_region.specs.Region.{IsRegion}
use Rattle.zpl_tree.specs.Syntax.{Inner, Exprs, Decl, Defined}
use Rattle.zpl_parts.specs.of_zpl_binding.Outcome.{Outcome}
use Rattle.zpl_parts.specs.of_zpl_binding.Regions.{Known}
use Rattle.zpl_parts.specs.of_zpl_binding.Storages.{Border, Shaped, shape_borders, shaped_by, storage_of}
use Rattle.zpl_parts.specs.Part as plain
use Rattle.zpl_parts.specs.Part.{VectorPart, BorderPart, AroundPart, CallPart}
use Rattle.zpl_parts.specs.View.{part_of}
use Rattle.zpl_parts.specs.declared.parts.Part.{Part}

-- the borders among parts
abbrev pub borders_among : List plain.Part → List Border
borders_among [] = []
borders_among (BorderPart border ∷ rest) = border ∷ borders_among rest
borders_among (VectorPart parts ∷ rest) = borders_among rest
borders_among (AroundPart array shift ∷ rest) = borders_among rest
borders_among (CallPart name actuals ∷ rest) = borders_among rest

abbrev pub borders_in : List Part → List Border
borders_in parts = borders_among (map part_of parts)

-- the vectors among parts
abbrev pub vectors_among : List plain.Part → List Exprs
vectors_among [] = []
vectors_among (VectorPart parts ∷ rest) = parts ∷ vectors_among rest
vectors_among (BorderPart border ∷ rest) = vectors_among rest
vectors_among (AroundPart array shift ∷ rest) = vectors_among rest
vectors_among (CallPart name actuals ∷ rest) = vectors_among rest

abbrev pub is_flood : Dim → Bool
is_flood (Range lo hi step align) = false
is_flood Flood = true

-- a region of the rank and with the flood dimensions of another
pub record IsAround (region storage : Region) : Type 0 where
  pub here : IsRegion storage
  pub ranks : storage.rank ≡ region.rank
  pub floods : map is_flood storage.dims ≡ map is_flood region.dims

-- the borders of an array's shape: none, or those of a region's name
pub record HasNoBorders (known : Known) (inner : Inner) : Type 0 where
  pub none : (borders : List Border) → shape_borders known borders inner ≡ []

pub record HasBordersOf (known : Known) (inner : Inner) (name : List ℕ) : Type 0 where
  pub named : (borders : List Border) → shape_borders known borders inner
      ≡ filter (λ border. bytes_eq border.region.text name) borders

-- the storages of arrays
abbrev pub storages_over : Known → List Border → List Shaped → List (Outcome Region)
storages_over known borders arrays = map (λ array. storage_of known borders array.region) arrays

-- the local arrays of a declaration
abbrev pub shaped_locals : Decl → List Shaped
shaped_locals (Defined procedure) = flat_map shaped_by procedure.locals
shaped_locals decl = []

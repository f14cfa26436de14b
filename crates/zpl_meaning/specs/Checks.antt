-- The second and the third phase of a statement: whether its regions conform, and whether its
-- references lie in the storages of their arrays.
use Rattle.std.specs.Prelude.{ℕ, Bool, true, ◌&&◌, [], Option, Some, None}
use Rattle.zpl_binding.specs.of_zpl_region.declared.regions.Region.{Region}
use Rattle.zpl_binding.specs.of_zpl_arrays.Conformity.{reduction_conforms, flood_conforms}
use Rattle.zpl_binding.specs.of_zpl_arrays.Reference.{lies_in, is_reference}
use Rattle.zpl_meaning.specs.Store.{Store, array_at}
use Rattle.zpl_meaning.specs.Context.{Mask, Over}
use Rattle.zpl_meaning.specs.Term.{Term, Constant, Variable, Coordinate, Element, Wrapped, Unary}
use Rattle.zpl_meaning.specs.Term.{Binary, Folded, PartFolded, Scanned, Flooded, Remapped, Terms}
use Rattle.zpl_meaning.specs.Term.{NoTerm, ThenTerm}

-- ---- conformity: of partial reductions and of floods
abbrev mutual
  pub conforms : Term → Bool
  conforms (Constant value) = true
  conforms (Variable place) = true
  conforms (Coordinate k) = true
  conforms (Element over array shift) = true
  conforms (Wrapped over array home shift) = true
  conforms (Unary operator operand) = conforms operand
  conforms (Binary operator left right) = conforms left && conforms right
  conforms (Folded operator over operand) = conforms operand
  conforms (PartFolded operator over source operand) =
      reduction_conforms over.region source && conforms operand
  conforms (Scanned operator along over operand) = conforms operand
  conforms (Flooded over source operand) = flood_conforms over.region source && conforms operand
  conforms (Remapped over array indices) = conform indices

  pub conform : Terms → Bool
  conform NoTerm = true
  conform (ThenTerm first rest) = conforms first && conform rest

-- ---- references

-- the array is read or written under the region without a shift
abbrev pub is_within : Store → Region → ℕ → Bool
is_within store region array = is_reference [] region (array_at store array).storage

-- a mask is a reference, where the current region is used; tuples that are masked out count too
abbrev pub has_mask_within : Store → Over → Bool
has_mask_within store over = by over.mask
  where
    by : Option Mask → Bool
    by None = true
    by (Some mask) = is_within store over.region mask.array

-- A reference reads within the array's storage: what counts is the region in force there, moved by
-- the shift. A read that wraps round has to have that region, unmoved, within the home box. The
-- array of a remap read isn't looked at here.
abbrev mutual
  pub refers : Store → Term → Bool
  refers store (Constant value) = true
  refers store (Variable place) = true
  refers store (Coordinate k) = true
  refers store (Element over array shift) =
      is_reference shift over (array_at store array).storage
  refers store (Wrapped over array home shift) = lies_in over home
  refers store (Unary operator operand) = refers store operand
  refers store (Binary operator left right) = refers store left && refers store right
  refers store (Folded operator over operand) =
      has_mask_within store over && refers store operand
  refers store (PartFolded operator over source operand) =
      has_mask_within store over && refers store operand
  refers store (Scanned operator along over operand) =
      has_mask_within store over && refers store operand
  refers store (Flooded over source operand) =
      has_mask_within store over && refers store operand
  refers store (Remapped over array indices) =
      has_mask_within store over && refer store indices

  pub refer : Store → Terms → Bool
  refer store NoTerm = true
  refer store (ThenTerm first rest) = refers store first && refer store rest

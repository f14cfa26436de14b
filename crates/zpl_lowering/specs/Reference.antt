-- The second and the third phase of a statement: rows that see whether its regions conform, and
-- whether its references lie in the storages of their arrays.
use Rattle.std.specs.Prelude.{ℕ, Bool, true, false, not, ◌&&◌, ◌==◌, ℤ, pos, List, [], ◌∷◌, ◌++◌, map, filter, Option, Some, None, slice_get}
use Rattle.std.specs.List.{list_all}
use Rattle.std.specs.Ordering.{int_eq}
use Rattle.zpl_meaning.specs.of_zpl_region.declared.dims.Dim.{Dim}
use Rattle.zpl_meaning.specs.of_zpl_region.declared.dims.Dim.TheVariants as dim
use Rattle.zpl_meaning.specs.of_zpl_region.declared.regions.Region.{Region}
use Rattle.zpl_meaning.specs.of_zpl_nums.Integer.{is_true}
use Rattle.zpl_meaning.specs.Context.{Mask}
use Rattle.text_sharing.specs.of_node_form.Value.{unmoved}
use Rattle.text_sharing.specs.of_node_form.declared.instructions.SameKind.TheVariants as same
use Rattle.text_sharing.specs.of_node_form.declared.instructions.Instr.TheVariants as instr
use Rattle.text_sharing.specs.of_flat_form.Row as row
use Rattle.text_sharing.specs.of_flat_form.Row.{Row}
use Rattle.zpl_lowering.specs.Where.{Stored, Numbers, Slotted}
use Rattle.zpl_lowering.specs.Slate.{Slate, Constant, Variable, Coordinate, Element, Wrapped, Unary, Binary, Folded, PartFolded, Scanned, Flooded, Remapped, Slates, NoSlate, ThenSlate}

-- ---- conformity, in text order
abbrev mutual
  pub conforming : ℕ → Slate → List Row
  conforming line (Constant value) = []
  conforming line (Variable place) = []
  conforming line (Coordinate k) = []
  conforming line (Element slot place shift) = []
  conforming line (Wrapped slot place home shift copy first) = []
  conforming line (Unary operator operand) = conforming line operand
  conforming line (Binary operator left right) = conforming line left ++ conforming line right
  conforming line (Folded operator over operand) = conforming line operand
  conforming line (PartFolded operator over source operand) =
      row.Plain (instr.Same over.slot source.slot same.Part line) ∷ conforming line operand
  conforming line (Scanned operator along over operand) = conforming line operand
  conforming line (Flooded over source operand) =
      row.Plain (instr.Same over.slot source.slot same.Flood line) ∷ conforming line operand
  conforming line (Remapped over place indices) = all_conforming line indices

  pub all_conforming : ℕ → Slates → List Row
  all_conforming line NoSlate = []
  all_conforming line (ThenSlate first rest) = conforming line first ++ all_conforming line rest

-- ---- references

-- an array that is read or written under a slot's region, moved by a vector
pub record Reference : Type 0 where
  pub slot : ℕ
  pub array : ℕ
  pub shift : List ℤ

abbrev pub at_place : ℕ → ℕ → Reference
at_place slot array = record { slot = slot; array = array; shift = unmoved }

abbrev pub is_same_vector : List ℤ → List ℤ → Bool
is_same_vector [] [] = true
is_same_vector [] (d ∷ v) = false
is_same_vector (d ∷ v) [] = false
is_same_vector (d ∷ v) (e ∷ w) = int_eq d e && is_same_vector v w

abbrev pub is_same : Reference → Reference → Bool
is_same one other =
    (one.slot == other.slot) && (one.array == other.array) && is_same_vector one.shift other.shift

-- each different one once, where it first stands
abbrev pub each_once : List Reference → List Reference
each_once [] = []
each_once (one ∷ rest) = one ∷ filter (λ other. not (is_same one other)) (each_once rest)

abbrev pub need_of : ℕ → Reference → Row
need_of line one = row.Plain (instr.Need one.slot one.array one.shift line)

abbrev pub needs : ℕ → List Reference → List Row
needs line references = map (need_of line) (each_once references)

-- A flood dimension has one position: there is no shift.
abbrev pub dim_shift : Dim → ℤ → ℤ
dim_shift dim.Flood d = pos 0
dim_shift (dim.Range lo hi step align) d = d

abbrev pub shift_in : List Dim → List ℤ → List ℤ
shift_in dims [] = []
shift_in [] (d ∷ v) = pos 0 ∷ shift_in [] v
shift_in (one ∷ dims) (d ∷ v) = dim_shift one d ∷ shift_in dims v

-- a vector that is written as none moves nothing
abbrev pub vector_over : Region → List ℤ → List ℤ
vector_over storage [] = unmoved
vector_over storage (d ∷ v) = shift_in storage.dims (d ∷ v)

abbrev pub is_unmoved : List ℤ → Bool
is_unmoved shift = list_all (λ part. not (is_true part)) shift

-- of an array by its place in the store; one that has no number is none of an accepted program
abbrev pub refer_to : ℕ → List ℤ → Option Stored → List Reference
refer_to slot shift None = []
refer_to slot shift (Some stored) =
    record { slot = slot; array = stored.array; shift = vector_over stored.storage shift } ∷ []

abbrev pub mask_reference : Numbers → ℕ → Option Mask → List Reference
mask_reference numbers slot None = []
mask_reference numbers slot (Some mask) =
    refer_to slot [] (slice_get numbers.arrays mask.array)

-- a mask is a reference, where the current region is used
abbrev pub over_reference : Numbers → Slotted → List Reference
over_reference numbers over = mask_reference numbers over.slot over.mask

-- A region lies within the home box of an array just where it lies within the copy's storage both
-- unmoved and moved. The array of a remap read isn't looked at here.
abbrev mutual
  pub referred : Numbers → Slate → List Reference
  referred numbers (Constant value) = []
  referred numbers (Variable place) = []
  referred numbers (Coordinate k) = []
  referred numbers (Element slot place shift) =
      refer_to slot shift (slice_get numbers.arrays place)
  referred numbers (Wrapped slot place home shift copy first) =
      at_place slot copy ∷ record { slot = slot; array = copy; shift = shift } ∷ []
  referred numbers (Unary operator operand) = referred numbers operand
  referred numbers (Binary operator left right) =
      referred numbers left ++ referred numbers right
  referred numbers (Folded operator over operand) =
      referred numbers operand ++ over_reference numbers over
  referred numbers (PartFolded operator over source operand) =
      over_reference numbers over ++ referred numbers operand
  referred numbers (Scanned operator along over operand) =
      referred numbers operand ++ over_reference numbers over
  referred numbers (Flooded over source operand) =
      over_reference numbers over ++ referred numbers operand
  referred numbers (Remapped over place indices) =
      over_reference numbers over ++ all_referred numbers indices

  pub all_referred : Numbers → Slates → List Reference
  all_referred numbers NoSlate = []
  all_referred numbers (ThenSlate first rest) =
      referred numbers first ++ all_referred numbers rest

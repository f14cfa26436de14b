-- The values of terms. Operators over regions come first, in the order of the text but for those
-- that stand in another one's operand, which come before it; each has its values at all tuples of
-- its region before the next one begins. What is left of a term is a field, which has a value, or
-- traps, at each tuple by itself.
use Rattle.std.specs.Prelude.{ℕ, Bool, true, false, ℤ, pos, unsigned_abs, List, [], ◌∷◌, map, Option}
use Rattle.std.specs.Prelude.{Some, None, slice_index_or, ◌-◌}
use Rattle.std.specs.List.{list_all}
use Rattle.zpl_binding.specs.of_zpl_nums.declared.folds.Fold.{Fold}
use Rattle.zpl_binding.specs.of_zpl_nums.declared.ends.TrapKind.TheVariants.{OutsideStorage}
use Rattle.zpl_binding.specs.of_zpl_nums.Op.{applied}
use Rattle.zpl_binding.specs.of_zpl_nums.UnaryOp.{applied_unary}
use Rattle.zpl_binding.specs.of_zpl_region.declared.regions.Region.{Region}
use Rattle.zpl_binding.specs.of_zpl_region.Region.{members, tuple_moved}
use Rattle.zpl_binding.specs.of_zpl_arrays.Array.{Array, element, has_place}
use Rattle.zpl_binding.specs.of_zpl_arrays.Around.{around_source}
use Rattle.zpl_binding.specs.of_zpl_arrays.Flood.{flood_source}
use Rattle.zpl_binding.specs.of_zpl_arrays.Fold.{reduced, partly_reduced}
use Rattle.zpl_binding.specs.of_zpl_arrays.Scan.{scanned, scanned_along}
use Rattle.zpl_binding.specs.Vectors.{three_components}
use Rattle.zpl_meaning.specs.Computed.{Computed, Gives, computed_then, both_then, provided, given}
use Rattle.zpl_meaning.specs.Store.{Store, scalar_at, array_at}
use Rattle.zpl_meaning.specs.Context.{is_kept, Over}
use Rattle.zpl_meaning.specs.Term.{Term, Constant, Variable, Coordinate, Element, Wrapped, Unary}
use Rattle.zpl_meaning.specs.Term.{Binary, Folded, PartFolded, Scanned, Flooded, Remapped, Terms}
use Rattle.zpl_meaning.specs.Term.{NoTerm, ThenTerm}

-- what there is at each tuple; of a scalar it is the same at all, and is asked for at []
abbrev pub Field : Type 0
Field = List ℤ → Computed ℤ

-- ---- fields over a region

abbrev pub everywhere : List ℤ → Bool
everywhere t = true

abbrev pub is_kept_in : Store → Over → List ℤ → Bool
is_kept_in store over t = is_kept store over.mask t

-- nothing is computed at a tuple that is masked out; 0 stands for it
abbrev pub value_if : Bool → Field → Field
value_if true field t = field t
value_if false field t = Gives (pos 0)

abbrev pub values_at : (List ℤ → Bool) → Field → List (List ℤ) → Computed (List ℤ)
values_at is_in field [] = Gives []
values_at is_in field (t ∷ ts) =
    both_then (value_if (is_in t) field t) (values_at is_in field ts) (λ value values.
    Gives (value ∷ values))

-- the values of a field at the tuples of a region that aren't masked out
abbrev pub array_over : Region → (List ℤ → Bool) → Field → Computed Array
array_over region is_in field =
    computed_then (values_at is_in field (members region)) (λ values.
    Gives (record { storage = region; values = values }))

abbrev pub arrays_over : Region → (List ℤ → Bool) → List Field → Computed (List Array)
arrays_over region is_in [] = Gives []
arrays_over region is_in (field ∷ fields) =
    both_then (array_over region is_in field) (arrays_over region is_in fields) (λ array arrays.
    Gives (array ∷ arrays))

-- ---- operators over regions, of operands that have their values

-- the same at each tuple
abbrev pub constant_field : ℤ → Field
constant_field value t = Gives value

abbrev pub fold_field : Fold → Region → (List ℤ → Bool) → Array → Field
fold_field operator region is_in operand =
    constant_field (reduced operator region is_in (element operand))

abbrev pub part_field : Fold → Region → Region → Array → Field
part_field operator target source operand t =
    Gives (partly_reduced operator target source (element operand) t)

abbrev pub scan_field : Fold → Option ℤ → Region → (List ℤ → Bool) → Array → Field
scan_field operator None region is_in operand t =
    Gives (scanned operator region is_in (element operand) t)
scan_field operator (Some k) region is_in operand t =
    Gives (scanned_along (unsigned_abs k) operator region is_in (element operand) t)

abbrev pub flood_field : Region → Array → Field
flood_field source operand t = Gives (element operand (flood_source source t))

-- the tuple that the indices have at a tuple
abbrev pub target_of : List Array → List ℤ → List ℤ
target_of indices t = three_components (map (λ index. element index t) indices)

abbrev pub remap_field : Array → List Array → Field
remap_field array indices t = Gives (element array (target_of indices t))

-- the tuple is masked out, or what the indices have there is in the storage
abbrev pub has_target : Bool → Array → List Array → List ℤ → Bool
has_target true array indices t = has_place array.storage (target_of indices t)
has_target false array indices t = true

-- ---- terms

-- the k-th coordinate, counted from 1
abbrev pub coordinate_of : ℕ → List ℤ → ℤ
coordinate_of k t = slice_index_or t (k - 1) (pos 0)

abbrev mutual
  pub field_of : Store → Term → Computed Field
  field_of store (Constant value) = Gives (constant_field value)
  field_of store (Variable place) = Gives (constant_field (scalar_at store place))
  field_of store (Coordinate k) = Gives (λ t. Gives (coordinate_of k t))
  field_of store (Element over array shift) =
      Gives (λ t. Gives (element (array_at store array) (tuple_moved shift over t)))
  field_of store (Wrapped over array home shift) =
      Gives (λ t. Gives (element (array_at store array) (around_source home shift t)))
  field_of store (Unary operator operand) =
      computed_then (field_of store operand) (λ field.
      Gives (λ t. computed_then (field t) (λ value. Gives (applied_unary operator value))))
  field_of store (Binary operator left right) =
      both_then (field_of store left) (field_of store right) (λ one other.
      Gives (λ t. both_then (one t) (other t) (λ first second.
      given (applied operator first second))))
  field_of store (Folded operator over operand) =
      computed_then (field_of store operand) (λ field.
      computed_then (array_over over.region (is_kept_in store over) field) (λ array.
      Gives (fold_field operator over.region (is_kept_in store over) array)))
  field_of store (PartFolded operator over source operand) =
      computed_then (field_of store operand) (λ field.
      computed_then (array_over source everywhere field) (λ array.
      Gives (part_field operator over.region source array)))
  field_of store (Scanned operator along over operand) =
      computed_then (field_of store operand) (λ field.
      computed_then (array_over over.region (is_kept_in store over) field) (λ array.
      Gives (scan_field operator along over.region (is_kept_in store over) array)))
  field_of store (Flooded over source operand) =
      computed_then (field_of store operand) (λ field.
      computed_then (array_over source everywhere field) (λ array.
      Gives (flood_field source array)))
  -- all indices have values before one of their tuples is found outside the storage
  field_of store (Remapped over array indices) =
      computed_then (fields_of store indices) (λ fields.
      computed_then (arrays_over over.region (is_kept_in store over) fields) (λ arrays.
      provided
      (list_all (λ t. has_target (is_kept_in store over t) (array_at store array) arrays t)
      (members over.region)) OutsideStorage (λ _.
      Gives (remap_field (array_at store array) arrays))))

  pub fields_of : Store → Terms → Computed (List Field)
  fields_of store NoTerm = Gives []
  fields_of store (ThenTerm first rest) =
      both_then (field_of store first) (fields_of store rest) (λ field fields.
      Gives (field ∷ fields))

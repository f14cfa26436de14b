-- The places of arrays that a processor holds.
--
--   moved_by       a tuple moved by a vector
--   value_at       the value at a place, where it is held
--   with_value     the arrays with another value at a place, where it is held
--   values_at      the values at places, where all are held; with_values the arrays with others
-- there
--   own_part       the part of a region within a processor's own block
use Rattle.std.specs.Prelude.{ℕ, Bool, true, false, ℤ, ◌+ℤ◌, List, [], ◌∷◌, option_and_then, slice_get, slice_set, Option, Some, None}
use Rattle.std.specs.Option.{option_map}
use Rattle.grid_layout.specs.of_zpl_region.declared.regions.Region.{Region}
use Rattle.grid_layout.specs.of_zpl_region.Region.{met}
use Rattle.node_form.specs.of_zpl_arrays.Array.{Array, element, has_place, updated}
use Rattle.grid_layout.specs.Layout.{laid_out, own_first, own_last}
use Rattle.node_form.specs.declared.tables.Tables.{Tables}
use Rattle.grid_meaning.specs.Stored.{arrangement_of}

abbrev pub moved_by : List ℤ → List ℤ → List ℤ
moved_by (d ∷ shift) (x ∷ t) = (x +ℤ d) ∷ moved_by shift t
moved_by _ t = t

-- ---- one place. In a flood dimension an array has its one position, whatever the coordinate is
abbrev pub where_held : {X : Type 0} → Bool → X → Option X
where_held true x = Some x
where_held false x = None

abbrev pub held_value : List ℤ → Array → Option ℤ
held_value t array = where_held (has_place array.storage t) (element array t)

abbrev pub value_at : List Array → ℕ → List ℤ → Option ℤ
value_at stores array t = option_and_then (held_value t) (slice_get stores array)

abbrev pub held_with : List ℤ → ℤ → Array → Option Array
held_with t value array = where_held (has_place array.storage t) (updated array t value)

abbrev pub with_value : List Array → ℕ → List ℤ → ℤ → Option (List Array)
with_value stores array t value =
    option_map (slice_set stores array) (option_and_then (held_with t value) (slice_get stores array))

-- ---- several places of an array
abbrev pub values_at : List Array → ℕ → List (List ℤ) → Option (List ℤ)
values_at stores array [] = Some []
values_at stores array (t ∷ places) =
    option_and_then (λ value. option_map (λ rest. value ∷ rest) (values_at stores array places)) (value_at stores array t)

abbrev pub with_values : ℕ → List (List ℤ) → List ℤ → List Array → Option (List Array)
with_values array (t ∷ places) (value ∷ values) stores =
    option_and_then (with_values array places values) (with_value stores array t value)
with_values array places values stores = Some stores

-- ---- own blocks
abbrev pub own_part : Tables → ℕ → Region → Region
own_part code p region =
    let blocks = laid_out (arrangement_of code) in
    met (own_first blocks region.rank p) (own_last blocks region.rank p) region

-- When a row of a flat program may stand where it does, in the state that a run has there.
--
--   can_read, can_write   an array, by a region
--   is_settled            a scalar
--   totals_begin          what a loop accumulates
use Rattle.std.specs.Prelude.{ℕ, ◌==◌, Bool, true, false, not, ◌&&◌, ℤ, pos, List, [], ◌∷◌, map}
use Rattle.std.specs.Prelude.{Option, Some, None, is_none, option_and_then, if◌then◌else◌}
use Rattle.std.specs.Prelude.{slice_get}
use Rattle.std.specs.List.{list_all, list_any}
use Rattle.std.specs.Ordering.{int_eq}
use Rattle.code_parts.specs.of_zpl_nums.Fold.{unit_of}
use Rattle.code_parts.specs.of_zpl_region.declared.dims.Dim.{Dim}
use Rattle.code_parts.specs.of_zpl_region.declared.dims.Dim.TheVariants as dim
use Rattle.code_parts.specs.of_zpl_region.declared.regions.Region.{Region}
use Rattle.code_parts.specs.of_zpl_region.Region.{members}
use Rattle.code_parts.specs.of_zpl_arrays.Array.{Array, has_place}
use Rattle.grid_meaning.specs.of_node_form.declared.arrays.ArrayDim.{ArrayDim}
use Rattle.grid_meaning.specs.of_node_form.declared.arrays.ArrayDim.TheVariants.{Range, Star}
use Rattle.grid_meaning.specs.of_node_form.declared.arrays.ArrayRow.{ArrayRow}
use Rattle.grid_meaning.specs.of_node_form.declared.tables.Tables.{Tables}
use Rattle.grid_meaning.specs.of_node_form.Value.{unmoved}
use Rattle.grid_meaning.specs.Place.{moved_by}
use Rattle.flat_form.specs.Row.{Member, Row}
use Rattle.flat_form.specs.Names.{Read, Total, each_word, word_scalars, group_words, group_totals}
use Rattle.flat_form.specs.Names.{row_scalars}
use Rattle.flat_form.specs.Whole.{Whole}

-- ---- flood dimensions
abbrev pub is_flood : Dim → Bool
is_flood dim.Flood = true
is_flood (dim.Range lo hi step align) = false

abbrev pub is_star : ArrayDim → Bool
is_star Star = true
is_star (Range lo hi low high) = false

abbrev pub no_flood : Region → Bool
no_flood region = list_all (λ dim. not (is_flood dim)) region.dims

-- the array has a flood dimension wherever the region has one
abbrev pub dim_covers : ArrayDim → Dim → Bool
dim_covers Star dim = true
dim_covers (Range lo hi low high) dim = not (is_flood dim)

abbrev pub each_covers : List ArrayDim → List Dim → Bool
each_covers (row ∷ rows) (dim ∷ dims) = dim_covers row dim && each_covers rows dims
each_covers rows dims = true

-- and nowhere else
abbrev pub dim_matches : ArrayDim → Dim → Bool
dim_matches Star dim = is_flood dim
dim_matches (Range lo hi low high) dim = not (is_flood dim)

abbrev pub each_matches : List ArrayDim → List Dim → Bool
each_matches (row ∷ rows) (dim ∷ dims) = dim_matches row dim && each_matches rows dims
each_matches rows dims = true

abbrev pub matches : ArrayRow → Region → Bool
matches row region = each_matches row.dims region.dims

-- ---- places
-- a vector that moves nothing
abbrev pub is_unmoved : List ℤ → Bool
is_unmoved shift = list_all (λ d. int_eq d (pos 0)) shift

-- the array has a place for each tuple of the region, moved by the vector
abbrev pub has_places : Array → Region → List ℤ → Bool
has_places store region shift =
    list_all (λ t. has_place store.storage (moved_by shift t)) (members region)

-- A stored array is read at places of its storage, and has a flood dimension wherever the region
-- has one. A temporary is read without shift, at tuples of its room, by a region with the same
-- flood dimensions.
abbrev pub may_read : ArrayRow → Region → List ℤ → Bool
may_read row region shift =
    if row.stored then each_covers row.dims region.dims else is_unmoved shift && matches row region

abbrev pub reads_well : Option ArrayRow → Option Array → Region → List ℤ → Bool
reads_well (Some row) (Some store) region shift =
    may_read row region shift && has_places store region shift
reads_well row store region shift = false

abbrev pub can_read : Tables → Whole → Region → Read → Bool
can_read tables whole region read =
    reads_well (slice_get tables.arrays read.array) (slice_get whole.stores read.array)
    region read.shift

-- An array is written at places that it has, and has the flood dimensions of the region.
abbrev pub writes_well : Option ArrayRow → Option Array → Region → Bool
writes_well (Some row) (Some store) region = matches row region && has_places store region unmoved
writes_well row store region = false

abbrev pub can_write : Tables → Whole → Region → ℕ → Bool
can_write tables whole region array =
    writes_well (slice_get tables.arrays array) (slice_get whole.stores array) region

-- ---- scalars
-- No `fold` of the scalar is still to come.
abbrev pub is_settled : Whole → ℕ → Bool
is_settled whole scalar =
    is_none (option_and_then (λ awaited. awaited) (slice_get whole.awaited scalar))

-- the row names no other scalar
abbrev pub are_settled : Whole → Row → Bool
are_settled whole row = list_all (is_settled whole) (row_scalars row)

-- ---- accumulation
abbrev pub is_among : ℕ → List ℕ → Bool
is_among n numbers = list_any (λ m. m == n) numbers

abbrev pub are_distinct : List ℕ → Bool
are_distinct [] = true
are_distinct (n ∷ numbers) = not (is_among n numbers) && are_distinct numbers

abbrev pub is_value : ℤ → Option ℤ → Bool
is_value value (Some own) = int_eq own value
is_value value None = false

-- the scalar holds its fold's unit, and no member of the group reads it
abbrev pub total_begins : Whole → List ℕ → Total → Bool
total_begins whole scalars total =
    is_value (unit_of total.operator) (slice_get whole.scalars total.scalar)
    && not (is_among total.scalar scalars)

-- so do all that the group accumulates, each by one member, over a region without flood dimension
abbrev pub all_begin : Whole → Region → List ℕ → List Total → Bool
all_begin whole region scalars [] = true
all_begin whole region scalars (total ∷ totals) =
    no_flood region && (are_distinct (map (λ total. total.scalar) (total ∷ totals))
    && list_all (total_begins whole scalars) (total ∷ totals))

abbrev pub totals_begin : Whole → Region → List Member → Bool
totals_begin whole region group =
    all_begin whole region (each_word word_scalars (group_words group)) (group_totals group)
